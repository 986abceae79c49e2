-- Meanings are below 2 ^ n.
use Rattle.std.proofs.Common.{◌≡◌, ℕ, zero, suc, ◌*◌, ◌^◌, ◌<◌, ◌/◌, length, arith, Bool, true}
use Rattle.std.proofs.Common.{false, cond, List, [], ◌∷◌, map, fold, replicate, refl, ap, ◌∙◌}
use Rattle.std.proofs.Common.{Option, Some, None}
use Rattle.std.specs.List.{AllByRecursion}
use Rattle.std.proofs.Common.{length-set, bytes_eq}
use Rattle.std.proofs.lemmas.List.{length-replicate}
use Rattle.op_text.specs.declared.tree.Kind.{Kind}
use Rattle.op_text.specs.declared.tree.Kind.TheVariants.{Word, Bit}
use Rattle.op_text.specs.declared.tree.Param.{Param}
use Rattle.op_text.specs.declared.tree.State.{State}
use Rattle.op_text.specs.Language.{Equation, Block, Statement, Compute, Visit, result_names}
use Rattle.op_text.specs.Values.{value, bits}
use Rattle.op_text.specs.Meaning.{NameValue, width, holding, holds_nothing, changed, bit_written}
use Rattle.op_text.specs.Meaning.{assigned, visited, positions, with_blanks, with_states, computed}
use Rattle.op_text.specs.Meaning.{after_statement, with_sources, after_body, after_op, term_bit}
use Rattle.op_text.specs.Meaning.{number}
use Rattle.op_text.specs.Meaning.{second_computed, with_second, MeaningFits}

two_powers : (m : ℕ) → 2 ^ suc m ≡ 2 * 2 ^ m
two_powers m = omega arith

value_below : (bs : List Bool) → value bs < 2 ^ length bs
value_below [] = omega arith
value_below (true ∷ bs) = let h = value_below bs in rw (two_powers (length bs)) (omega (arith, h))
value_below (false ∷ bs) = let h = value_below bs in rw (two_powers (length bs)) (omega (arith, h))

length-bits : (v n : ℕ) → length (bits v n) ≡ n
unfolding bits
length-bits v zero = refl
length-bits v (suc n) = ap suc (length-bits (v / 2) n)

abbrev Fits : ℕ → NameValue → Type 0
Fits n h = length h.bits ≡ width n h.kind

abbrev AllFit : ℕ → (List ℕ → NameValue) → Type 0
AllFit n names = (name : List ℕ) → Fits n (names name)

choose : (n : ℕ) (b : Bool) (h k : NameValue) → Fits n h → Fits n k → Fits n (cond b h k)
choose n true h k f g = f
choose n false h k f g = g

changed_fit : (n : ℕ) (names : List ℕ → NameValue) (name : List ℕ) (h : NameValue)
    → AllFit n names → Fits n h
    → AllFit n (changed names name h)
changed_fit n names name h f g = λ m. choose n (bytes_eq m name) h (names m) g (f m)

holding_fits : (n : ℕ) (k : Kind) (v : ℕ) → Fits n (holding n k v)
holding_fits n k v = length-bits v (width n k)

written_fits : (n i : ℕ) (k : Kind) (bs : List Bool) (b : Bool)
    → Fits n (record { kind = k; bits = bs })
    → Fits n (bit_written i (record { kind = k; bits = bs }) b)
written_fits n i Word bs b h = length-set bs i b ∙ h
written_fits n i Bit bs b h = refl

assigned_fit : (n i : ℕ) (r : List ℕ → Bool) (es : List Equation) (names : List ℕ → NameValue)
    → AllFit n names → AllFit n (assigned r i names es)
assigned_fit n i r [] names h = h
assigned_fit n i r (e ∷ es) names h =
    assigned_fit n i r es (changed names e.name (bit_written i (names e.name) (term_bit r e.value)))
    (changed_fit n names e.name _ h (written_fits n i (names e.name).kind (names e.name).bits
    (term_bit r e.value) (h e.name)))

blanks_fit : (n : ℕ) (es : List Equation) (names : List ℕ → NameValue) → AllFit n names
    → AllFit n (with_blanks n names es)
blanks_fit n [] names h = h
blanks_fit n (e ∷ es) names h = blanks_fit n es
    (changed names e.name (record { kind = Word; bits = replicate n false }))
    (changed_fit n names e.name _ h (length-replicate n false))

states_fit : (n : ℕ) (ss : List State) (names : List ℕ → NameValue) → AllFit n names
    → AllFit n (with_states names ss)
states_fit n [] names h = h
states_fit n (s ∷ ss) names h = states_fit n ss
    (changed names s.name (record { kind = Bit; bits = s.start ∷ [] }))
    (changed_fit n names s.name _ h refl)

visits_fit : (n : ℕ) (block : Block) (ks : List ℕ) (names : List ℕ → NameValue) → AllFit n names
    → AllFit n (fold (visited block) names ks)
visits_fit n block [] names h = h
visits_fit n block (k ∷ ks) names h = visits_fit n block ks (visited block names k)
    (assigned_fit n k _ block.assigns names h)

second_fits : (n : ℕ) (second : Option (List ℕ)) (names : List ℕ → NameValue) (v : NameValue)
    → AllFit n names → Fits n v → AllFit n (with_second names second v)
second_fits n None names v h f = h
second_fits n (Some name) names v h f = changed_fit n names name v h f

statement_fits : (n : ℕ) (s : Statement) (names : List ℕ → NameValue) → AllFit n names
    → AllFit n (after_statement n names s)
statement_fits n (Compute target second p args) names h =
    second_fits n second (changed names target (computed n p (map names args)))
    (second_computed n p (map names args))
    (changed_fit n names target (computed n p (map names args)) h (holding_fits n _ _))
    (holding_fits n _ _)
statement_fits n (Visit block) names h =
    visits_fit n block (positions block.down n) _
    (states_fit n block.states _ (blanks_fit n block.assigns names h))

body_fits : (n : ℕ) (body : List Statement) (names : List ℕ → NameValue) → AllFit n names
    → AllFit n (after_body n body names)
body_fits n [] names h = h
body_fits n (s ∷ body) names h = body_fits n body (after_statement n names s)
    (statement_fits n s names h)

sources_fit : (n : ℕ) (ps : List Param) (values : List ℕ) (names : List ℕ → NameValue)
    → AllFit n names
    → AllFit n (with_sources n names ps values)
sources_fit n [] values names h = h
sources_fit n (p ∷ ps) [] names h = h
sources_fit n (p ∷ ps) (v ∷ values) names h =
    sources_fit n ps values (changed names p.name (holding n p.kind v))
    (changed_fit n names p.name _ h (holding_fits n p.kind v))

numbers_fit : (n : ℕ) (held : List ℕ → NameValue) (names : List (List ℕ)) → AllFit n held
    → AllByRecursion (λ (h : NameValue). number h < 2 ^ width n h.kind) (map held names)
numbers_fit n held [] f = tt
numbers_fit n held (name ∷ names) f =
    let b = value_below (held name).bits in
    let b' = rw (f name) at b in (b', numbers_fit n held names f)

pub meaning_fits : MeaningFits
meaning_fits op n values = numbers_fit n (after_op op n values) (result_names op)
    (body_fits n op.body (with_sources n holds_nothing op.params values)
    (sources_fit n op.params values holds_nothing (λ name. refl)))
