-- What the first of sequences that serves tells of the others
use Rattle.row_alloc.proofs.Common.{◌≡◌, ℕ, zero, suc, ◌+◌, ◌<◌, ◌≤◌, ◌&&◌, Bool, true, false, List}
use Rattle.row_alloc.proofs.Common.{[], ◌∷◌, length, get_or, refl, arith, inl, inr, subst, list_all}
use Rattle.row_alloc.proofs.Common.{cases_lt, list_all_at, Graph}
use Rattle.std.proofs.Common.{nat_le}
use Rattle.std.proofs.lemmas.Bool.{and_parts, leb-true}
use Rattle.row_alloc.specs.declared.body.BodyCmd.{BodyCmd}
use Rattle.row_alloc.specs.declared.body.OutRow.{OutRow}
use Rattle.row_alloc.specs.declared.body.Held.{Held}
use Rattle.row_alloc.specs.Known.{Serves, IsFirst, known, known_at, ServesHeld, known_held, held_at}

-- each is no longer than those after it
unfoldable rising : List (List BodyCmd) → Bool
rising [] = true
rising (s ∷ ss) = list_all (λ t. nat_le (length s) (length t)) ss && rising ss

in_order : (s : List BodyCmd) (ss : List (List BodyCmd)) (k : ℕ) → list_all (λ t. nat_le (length s)
    (length t)) ss ≡ true → k < length ss → length s ≤ length (get_or ss k [])
in_order s ss k h l = by (nat_le (length s) (length (get_or ss k []))) refl
  where
    by : (b : Bool) → nat_le (length s) (length (get_or ss k [])) ≡ b
        → length s ≤ length (get_or ss k [])
    by true e = leb-true (length s) (length (get_or ss k [])) e
    by false e = let g = list_all_at (λ t. nat_le (length s) (length t)) ss k [] l e in cc

following : (s : List BodyCmd) (ss : List (List BodyCmd)) → rising (s ∷ ss) ≡ true
    → (list_all (λ t. nat_le (length s) (length t)) ss ≡ true) × (rising ss ≡ true)
unfolding rising
following s ss h = and_parts (list_all (λ t. nat_le (length s) (length t)) ss) (rising ss) h

later : (ss : List (List BodyCmd)) → rising ss ≡ true → (i k : ℕ) → i ≤ k → k < length ss
    → length (get_or ss i []) ≤ length (get_or ss k [])
later [] h i k b l = omega (arith, l)
later (s ∷ ss) h zero zero b l = omega arith
later (s ∷ ss) h zero (suc k) b l = in_order s ss k (following s ss h).0 (omega (arith, l))
later (s ∷ ss) h (suc i) zero b l = omega (arith, b)
later (s ∷ ss) h (suc i) (suc k) b l = later ss (following s ss h).1 i k (omega (arith, b))
    (omega (arith, l))

-- none up to a number serves, and nor does that of the number
pub none_more : (S : ℕ → Type 0) (k : ℕ) → ((i : ℕ) → i < k → S i → ⊥) → (S k → ⊥) → (i : ℕ)
    → i < k + 1 → S i → ⊥
none_more S k none not i l s = elim (cases_lt i k) [
  | inl b ↦ none i b s
  | inr b ↦ let e : i ≡ k = omega (arith, l, b) in not (subst S e s)
]

-- the sequence of this number serves, and none before it
module _ (g : Graph) (outs : List OutRow) (i : ℕ) (serves : Serves g outs (known_at i))
    (before : (k : ℕ) → k < i → Serves g outs (known_at k) → ⊥) where
  -- no other that serves is shorter
  pub first_least : (k : ℕ) → k < length known → Serves g outs (known_at k)
      → length (known_at i) ≤ length (known_at k)
  unfolding rising
  first_least k l s = elim (cases_lt k i) [
    | inl b ↦ elim (before k b s) [ ]
    | inr b ↦ later known refl i k b l
  ]

  -- no other is the first
  pub first_same : (k : ℕ) → IsFirst g outs k → i ≡ k
  first_same k first = elim (cases_lt i k) [
    | inl b ↦ elim (first.before i b serves) [ ]
    | inr b ↦ elim (cases_lt k i) [
      | inl a ↦ elim (before k a first.serves) [ ]
      | inr a ↦ omega (arith, a, b)
    ]
  ]

-- the same with states in cells
pub held_least : (g : Graph) (outs : List OutRow) (enter leave : List Held) (i : ℕ)
    → ((k : ℕ) → k < i → ServesHeld g outs enter leave (held_at k) → ⊥) → (k : ℕ)
    → k < length known_held → ServesHeld g outs enter leave (held_at k)
    → length (held_at i) ≤ length (held_at k)
unfolding rising
held_least g outs enter leave i before k l s = elim (cases_lt k i) [
  | inl b ↦ elim (before k b s) [ ]
  | inr b ↦ later known_held refl i k b l
]
