-- A `cost` of what `compile` stored sends the exact commands of its ops.
use Rattle.cli_laws.proofs.Common.{◌≡◌, ℕ, ◌<◌, ◌≤◌, Bool, List, [], ◌∷◌, ◌++◌, map, refl, sym, ap}
use Rattle.cli_laws.proofs.Common.{◌∙◌, subst, inr, Ok, AllByRecursion, WIDTH_MAX, Known, Operation}
use Rattle.cli_laws.proofs.Common.{counts_of, issues_of, trace, Microprogram, ImplementsAll}
use Rattle.cli_laws.proofs.Common.{text_op, AreExact, file_is_one, Program}
use Rattle.std.specs.Prelude.{codes}
use Rattle.std.specs.List.{flat_map}
use Rattle.std.proofs.lemmas.List.Concat.{flat_map-cons}
use Rattle.std.proofs.lemmas.List.Elements.{recursion_from_All}
use Rattle.uprog_code.specs.Count.{walked}
use Rattle.uprog_code.specs.Machine.{HasEnded, Trace, Ended, Stuck}
use Rattle.uprog_code.specs.Shape.{Shape}
use Rattle.uprog_code.specs.Texts.{EntryDoes, op_shape}
use Rattle.uprog_gen.specs.Totals.{IsExact, op_counts}
use Rattle.prog_text.specs.Costs.{at_text, cost_line, cost_lines, cost_text, costs}
use Rattle.prog_text.specs.Widths.{is_single}
use Rattle.simdram_cli.specs.declared.account.ProgramAccount.TheVariants.{Listing, Costs}
use Rattle.cli_laws.specs.Costs.{CostsOfCompiled, blocks_of, exact_costs, exact_line}
use Rattle.cli_laws.proofs.Unique.{one_value}

abbrev IsWidth : ℕ → Type 0
IsWidth n = (0 < n) × (n ≤ WIDTH_MAX)

-- a walk that ends counts its commands
counted : (t : Trace) → HasEnded t → walked t ≡ Ok (counts_of (issues_of t))
counted (Ended issues) e = refl
counted (Stuck at why) e = absurd e

-- an entry's line
line_is : (single : Bool) (e : Microprogram) (op : Operation) (does : EntryDoes e (text_op op))
    (x : IsExact e op) (n : ℕ) → 0 < n → n ≤ WIDTH_MAX
    → cost_line single e n ≡ exact_line single op x.blocks n
line_is single e op does x n some small =
    let ends : HasEnded (trace e.shape e.code n) =
    subst (λ (s : Shape). HasEnded (trace s e.code n)) (sym does.shape)
    (does.code.ends n some small) in
    let walk = counted (trace e.shape e.code n) ends ∙ ap Ok (x.exact n some small) in
    ap (λ w. e.name ++ at_text single n ++ cost_text e.shape n w ++ codes "\n") walk
    ∙ ap (λ s. e.name ++ at_text single n ++ cost_text s n (Ok (op_counts op x.blocks n))
    ++ codes "\n") does.shape
    ∙ ap (λ name. name ++ at_text single n ++ cost_text (op_shape op) n
    (Ok (op_counts op x.blocks n)) ++ codes "\n") does.name

lines_are : (f g : ℕ → List ℕ) → ((n : ℕ) → IsWidth n → f n ≡ g n) → (widths : List ℕ)
    → AllByRecursion IsWidth widths → flat_map f widths ≡ flat_map g widths
lines_are f g same [] all = refl
lines_are f g same (n ∷ widths) all =
    flat_map-cons f n widths
    ∙ ap (λ l. l ++ flat_map f widths) (same n all.0)
    ∙ ap (λ l. g n ++ l) (lines_are f g same widths all.1)
    ∙ sym (flat_map-cons g n widths)

costs_are : (widths : List ℕ) → AllByRecursion IsWidth widths → (p : Program)
    (ops : List Operation) → ImplementsAll p (map text_op ops) → (x : AreExact p ops)
    → costs widths p ≡ exact_costs widths ops (blocks_of p ops x)
costs_are widths all [] [] does x = refl
costs_are widths all [] (op ∷ ops) does x = absurd x
costs_are widths all (e ∷ p) [] does x = absurd x
costs_are widths all (e ∷ p) (op ∷ ops) does x =
    flat_map-cons (cost_lines widths) e p
    ∙ ap (λ l. l ++ costs widths p) (lines_are (cost_line (is_single widths) e)
    (exact_line (is_single widths) op x.0.blocks)
    (λ n w. line_is (is_single widths) e op does.0 x.0 n w.0 w.1) widths all)
    ∙ ap (λ l. flat_map (exact_line (is_single widths) op x.0.blocks) widths ++ l)
    (costs_are widths all p ops does.1 x.1)

pub costs_of_compiled : CostsOfCompiled
costs_of_compiled names before after last a b c d Listing wide k t = tt
costs_of_compiled names before after last a b c d (Costs widths) wide k t =
    let m = k.compiled in
    let same : t.program ≡ k.program =
    (file_is_one t.version 2 t.program k.program t.legal m.legal t.has (inr refl)
    (one_value (after names.prog.now) _ _ t.is k.is)).1 in
    subst (λ (w : List ℕ). Known (λ x y. y ≡ x ++ w) c.sink.sent d.sink.sent)
    (ap (costs widths.items) same
    ∙ costs_are widths.items (recursion_from_All IsWidth widths.items wide) k.program m.ops
    m.implements m.exact) t.sent
