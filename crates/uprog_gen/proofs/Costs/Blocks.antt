-- The commands of a serial block: so many before the positions, at each but the last, and there.
use Rattle.uprog_gen.proofs.Common.{◌≡◌, ℕ, zero, suc, ◌+◌, ◌-◌, ◌*◌, ◌<◌, ◌≤◌, Bool, List, [], ◌∷◌}
use Rattle.uprog_gen.proofs.Common.{◌++◌, map, length, refl, sym, ap, ◌∙◌, subst, arith, append-nil}
use Rattle.uprog_gen.proofs.Common.{inl, inr, sum_by-cons, WIDTH_MAX, Param, State, WordOp}
use Rattle.uprog_gen.proofs.Common.{Statement, Compute, Visit, Operation, defines, names_width}
use Rattle.uprog_gen.proofs.Common.{Counts, counts_of, issues_of, trace, Microprogram, Place}
use Rattle.uprog_gen.proofs.Common.{turn_aaps, turn_aps, RoundOf, all_rounds, Block, StepOf, Along}
use Rattle.uprog_gen.proofs.Common.{Flowed, Slots, rounds_sum, sum_is, IsBlockProgram, constant}
use Rattle.uprog_gen.proofs.Common.{place_of, start, home, each_last, held_body, held_last}
use Rattle.uprog_gen.proofs.Common.{held_start}
use Rattle.op_text.specs.Language.{Block as Serial}
use Rattle.loop_ir.specs.Loops.{flow_rounds}
use Rattle.loop_laws.proofs.Summed.{steps_sum}
use Rattle.block_lower.specs.Form.{row_steps}
use Rattle.block_lower.proofs.EachLast.{from_on, round_with, rounds_are, sum_from}
use Rattle.block_lower.proofs.InRows.{within-ceiling}
use Rattle.uprog_gen.specs.Costs.{op_aaps, op_aps}
use Rattle.uprog_gen.specs.Programs.{AreCompiled, HaveForms, IsCompiled}
use Rattle.uprog_gen.specs.Totals.{AreBlockCounts, AreExact, BlockCounts, IsExact, block_total}
use Rattle.uprog_gen.specs.Totals.{body_total, op_counts, parts_total}
use Rattle.uprog_gen.proofs.Costs.Kinds.{all_kinds}
use Rattle.uprog_gen.proofs.Rows.Top.{both_counts}

-- a body's commands
abbrev of_body : Block → Counts
of_body b = record { aap = turn_aaps b; ap = turn_aps b }

-- a block's loop program takes these at every width
record HasCounts (q : List (StepOf Block)) : Type 0 where
  counts : BlockCounts
  aaps : (n : ℕ) → 0 < n
      → rounds_sum turn_aaps (all_rounds n q) ≡ block_total (λ k. k.aap) counts n
  aps : (n : ℕ) → 0 < n → rounds_sum turn_aps (all_rounds n q) ≡ block_total (λ k. k.ap) counts n

-- one position more
last_apart : (n x : ℕ) → 0 < n → n * x ≡ (n - 1) * x + x
last_apart zero x some = absurd (omega (arith, some))
last_apart (suc m) x some = let one : suc m - 1 ≡ m = omega arith in rw one (omega arith)

-- the states' starts, and a body at each position
starts_sum : (f : Block → ℕ) (k : ℕ) → ((v : Bool) (p : Place) → f (constant v p) ≡ k) → (n : ℕ)
    (slots : Slots) (down : Bool) (states : List State) (body : Block)
    → steps_sum f n (map (start slots down) states ++ Along body ∷ []) ≡ length states * k + n * f body
starts_sum f k one n slots down [] body = omega arith
starts_sum f k one n slots down (s ∷ states) body =
    let e = one s.start (place_of down (slots s.name)) in
    let more = starts_sum f k one n slots down states body in omega (arith, e, more)

in_rows : (slots : Slots) (down : Bool) (states : List State) (body : Block)
    → HasCounts (row_steps slots down states body)
in_rows slots down states body = record {
  counts = record {
    start = record { aap = length states; ap = 0 };
    each = of_body body;
    last = of_body body;
  };
  aaps = λ n some. (let e = sum_is turn_aaps n (row_steps slots down states body)
      ∙ starts_sum turn_aaps 1 (λ v p. refl) n slots down states body in
      let l = last_apart n (turn_aaps body) some in omega (arith, e, l));
  aps = λ n some. (let e = sum_is turn_aps n (row_steps slots down states body)
      ∙ starts_sum turn_aps 0 (λ v p. refl) n slots down states body in
      let l = last_apart n (turn_aps body) some in omega (arith, e, l));
}

-- a start, a body at each position but the top one, and another one there
held_sum : (f : Block → ℕ) (first each last : Block) (n : ℕ) → 0 < n
    → rounds_sum f (all_rounds n (Flowed (each_last first each last) ∷ []))
    ≡ f first + (n - 1) * f each + f last
held_sum f first each last zero some = absurd (omega (arith, some))
held_sum f first each last (suc m) some =
    let e = ap (rounds_sum f) (append-nil (flow_rounds (suc m) (each_last first each last))
    ∙ rounds_are first each last m) in
    let a = sum_by-cons (λ (r : RoundOf Block). f r.part) (round_with first 0 0)
    (from_on each last 0 m) in
    let t = sum_from f each last 0 m in
    let one : suc m - 1 ≡ m = omega arith in
    rw one (omega (arith, e, a, t))

in_cells : (first each last : Block) → HasCounts (Flowed (each_last first each last) ∷ [])
in_cells first each last = record {
  counts = record { start = of_body first; each = of_body each; last = of_body last };
  aaps = held_sum turn_aaps first each last;
  aps = held_sum turn_aps first each last;
}

has_counts : (slots : Slots) (b : Serial) (q : List (StepOf Block)) → IsBlockProgram slots b q
    → HasCounts q
has_counts slots b q f = elim f.form as (λ _. HasCounts q) [
  | inl e ↦ subst HasCounts (sym e.1) (in_rows slots b.down b.states f.body)
  | inr h ↦ (let at = home slots b.down h.state h.cells in subst HasCounts (sym h.form)
      (in_cells (held_start at h.cmds.start) (held_body at f.body h.cmds.each)
      (held_last at f.body h.cmds.last)))
]

-- those of all blocks of a body
abbrev block_counts : (slots : Slots) (body : List Statement) (ps : List (List (StepOf Block)))
    → HaveForms slots body ps → List BlockCounts
block_counts slots [] ps h = []
block_counts slots (s ∷ body) [] h = []
block_counts slots (Compute target second p args ∷ body) (q ∷ ps) h =
    block_counts slots body ps h.1
block_counts slots (Visit b ∷ body) (q ∷ ps) h =
    (has_counts slots b q h.0).counts ∷ block_counts slots body ps h.1

are_counts : (slots : Slots) (body : List Statement) (ps : List (List (StepOf Block)))
    (h : HaveForms slots body ps) → AreBlockCounts body (block_counts slots body ps h)
are_counts slots [] [] h = tt
are_counts slots (Compute target second p args ∷ body) (q ∷ ps) h = are_counts slots body ps h.1
are_counts slots (Visit b ∷ body) (q ∷ ps) h = (
  (λ n some. (let c = has_counts slots b q h.0 in
      let w = within-ceiling h.0.is n _ (h.0.cost n some) in
      omega (arith, all_kinds (all_rounds n q), c.aaps n some, c.aps n some, w))),
  are_counts slots body ps h.1,
)
are_counts slots [] (q ∷ ps) h = absurd h
are_counts slots (s ∷ body) [] h = absurd h

-- the sum over the parts is that over word operations and blocks
totals_are : (f : WordOp → ℕ → ℕ) (t : Block → ℕ) (g : Counts → ℕ)
    → ((q : List (StepOf Block)) (c : HasCounts q) (n : ℕ) → 0 < n
    → rounds_sum t (all_rounds n q) ≡ block_total g c.counts n)
    → (slots : Slots) (n : ℕ) → 0 < n → (known : List Param) (body : List Statement)
    (ps : List (List (StepOf Block))) (h : HaveForms slots body ps)
    → parts_total f t known n body ps
    ≡ body_total f g known n body (block_counts slots body ps h)
totals_are f t g each slots n some known [] [] h = refl
totals_are f t g each slots n some known (Compute target second p args ∷ body) (q ∷ ps) h =
    ap (λ x. f p (names_width known n args) + x) (totals_are f t g each slots n some
    (known ++ defines known (Compute target second p args)) body ps h.1)
totals_are f t g each slots n some known (Visit b ∷ body) (q ∷ ps) h =
    let e = each q (has_counts slots b q h.0) n some in
    let more = totals_are f t g each slots n some (known ++ defines known (Visit b)) body ps h.1 in
    omega (arith, e, more)
totals_are f t g each slots n some known [] (q ∷ ps) h = absurd h
totals_are f t g each slots n some known (s ∷ body) [] h = absurd h

one_exact : (e : Microprogram) (op : Operation) → IsCompiled e op → IsExact e op
one_exact e op c = record {
  blocks = block_counts c.slots op.body c.statements c.forms;
  are = are_counts c.slots op.body c.statements c.forms;
  exact = λ n some small. c.exact n some small
      ∙ both_counts (totals_are op_aaps turn_aaps (λ k. k.aap) (λ q d n lt. d.aaps n lt) c.slots n some
      op.params op.body c.statements c.forms)
      (totals_are op_aps turn_aps (λ k. k.ap) (λ q d n lt. d.aps n lt) c.slots n some op.params
      op.body c.statements c.forms);
}

-- each entry of a program is exact
pub compiled_exact : (es : List Microprogram) (ops : List Operation) → AreCompiled es ops
    → AreExact es ops
compiled_exact [] [] h = tt
compiled_exact (e ∷ es) (op ∷ ops) h = (one_exact e op h.0, compiled_exact es ops h.1)
compiled_exact [] (op ∷ ops) h = absurd h
compiled_exact (e ∷ es) [] h = absurd h

-- no block stands among the statements
abbrev pub AllWords : List Statement → Type 0
AllWords [] = Unit {0}
AllWords (Compute target second p args ∷ body) = AllWords body
AllWords (Visit b ∷ body) = ⊥

no_counts : (body : List Statement) (cs : List BlockCounts) → AllWords body
    → AreBlockCounts body cs → cs ≡ []
no_counts [] [] words are = refl
no_counts [] (c ∷ cs) words are = absurd are
no_counts (Compute target second p args ∷ body) cs words are = no_counts body cs words are
no_counts (Visit b ∷ body) cs words are = absurd words

-- two entries of one operation without blocks take as many commands
pub words_cost_the_same : (e f : Microprogram) (op : Operation) → AllWords op.body → IsExact e op
    → IsExact f op → (n : ℕ) → 0 < n → n ≤ WIDTH_MAX
    → counts_of (issues_of (trace e.shape e.code n)) ≡ counts_of (issues_of (trace f.shape f.code n))
words_cost_the_same e f op words x y n some small =
    x.exact n some small
    ∙ ap (λ cs. op_counts op cs n) (no_counts op.body x.blocks words x.are
    ∙ sym (no_counts op.body y.blocks words y.are))
    ∙ sym (y.exact n some small)
