-- What is true of lists of literals
use Rattle.std.specs.Prelude.{◌≡◌, ℕ, ◌+◌, ◌<◌, Bool, true, false, List, [], ◌∷◌, ◌++◌, length}
use Rattle.std.specs.Prelude.{refl}
use Rattle.std.proofs.Common.{sym, arith, subst, inl, inr}
use Rattle.std.proofs.lemmas.Bool.{cases_lt}
use Rattle.std.proofs.lemmas.List.{get_or_append_left, get_or-append-add}
use Rattle.bit_rows.specs.Bits.{flip_if}
use Rattle.mig_graph.specs.declared.Lit.{Lit}
use Rattle.mig_graph.specs.Literals.{lit_value, complement_if}
use Rattle.mig_graph.proofs.Laws.{flip-not}
use Rattle.mig_graph.specs.Outputs.{lit_at}

lit-old : (lits : List Lit) (l : Lit) (k : ℕ) → k < length lits
    → lit_at (lits ++ l ∷ []) k ≡ lit_at lits k
lit-old lits l k b = get_or_append_left lits (l ∷ []) (record { node = 0; inverted = false }) k b

lit-last : (lits : List Lit) (l : Lit) (k : ℕ) → k ≡ length lits → lit_at (lits ++ l ∷ []) k ≡ l
lit-last lits l k e = let f : k ≡ length lits + 0 = omega arith in
    rw f (get_or-append-add lits (l ∷ []) 0 (record { node = 0; inverted = false }))

-- what holds of each of i literals and of one more
pub each-more : (P : ℕ → Lit → Type 0) (lits more : List Lit) (l : Lit) (i : ℕ) → length lits ≡ i
    → more ≡ lits ++ l ∷ [] → ((k : ℕ) → k < i → P k (lit_at lits k)) → P i l → (k : ℕ) → k < i + 1
    → P k (lit_at more k)
each-more P lits more l i long e h p k b = elim (cases_lt k i) [
  | inl c ↦ let d : k < length lits = omega arith in rw (e, lit-old lits l k d) (h k c)
  | inr c ↦ let f : k ≡ i = omega arith in let d : k ≡ length lits = omega arith in
      rw (e, lit-last lits l k d) (subst (λ j. P j l) (sym f) p)
]

-- the value of a literal's node, complemented where the literal is inverted
pub value-complemented : (v : ℕ → Bool) (i : Bool) (l : Lit)
    → lit_value v (complement_if i l) ≡ flip_if i (lit_value v l)
value-complemented v true l = flip-not l.inverted (v l.node)
value-complemented v false l = refl

-- a complement names the same node
pub complemented-node : (i : Bool) (l : Lit) → (complement_if i l).node ≡ l.node
complemented-node true l = refl
complemented-node false l = refl
