-- Loop programs that go over all positions: an invariant of their bodies, and what they keep.
use Rattle.word_lower.proofs.Common.{◌≡◌, ℕ, zero, suc, ◌+◌, ◌<◌, ◌≤◌, Bool, List, [], ◌∷◌, ◌++◌}
use Rattle.word_lower.proofs.Common.{refl, true, sym, ap, ◌∙◌, subst, arith, WordOp, Block, StepOf}
use Rattle.word_lower.proofs.Common.{Along, round_at, all_rounds, Spot, Spots, set_spot}
use Rattle.word_lower.proofs.Common.{after_round, after_rounds, is_state, set_same, set_other}
use Rattle.std.proofs.Common.{⊎_elim}
use Rattle.std.proofs.lemmas.Bool.{cases_eq}
use Rattle.loop_ir.specs.Loops.{rounds}
use Rattle.word_lower.specs.Places.{scratch_bit, cells}
use Rattle.word_lower.proofs.Setting.{value_of, number, Slots, row, AreSlots}
use Rattle.word_lower.proofs.Setting.{IsElsewhere, Gives}
use Rattle.word_lower.proofs.Sums.{value_same}

module _ (n : ℕ) (b : Block) (ss : List (StepOf Block)) (I : ℕ → Spots → Type 0)
    (step : (i : ℕ) → i < n → (s : Spots) → I i s → I (suc i) (after_round n (round_at b i) s))
    (P : Spots → Type 0) (end : (s : Spots) → I n s → P (after_rounds n (all_rounds n ss) s)) where
  rest : (i count : ℕ) → i + count ≡ n → (s : Spots) → I i s
      → P (after_rounds n (rounds b i count ++ all_rounds n ss) s)
  rest i zero e s h = let f : i ≡ n = omega arith in end s (subst (λ x. I x s) f h)
  rest i (suc count) e s h =
      let new = after_round n (round_at b i) s in
      let f : suc i ≡ i + 1 = omega arith in
      rest (i + 1) count (omega arith) new
      (subst (λ x. I x new) f (step i (omega arith) s h))

  -- what a body keeps at each position holds after all of them
  pub each : (s : Spots) → I 0 s → P (after_rounds n (all_rounds n (Along b ∷ ss)) s)
  each s h = rest 0 n (omega arith) s h

-- it is no row that stays as it is
abbrev pub IsFree : ℕ → ℕ → ℕ → Slots → Spot → Type 0
IsFree n k bits m p = (q : Spot) → IsElsewhere n k bits m q → q ≡ p → ⊥

-- all other rows are as before
abbrev pub IsKept : ℕ → ℕ → ℕ → Slots → Spots → Spots → Type 0
IsKept n k bits m before s = (q : Spot) → IsElsewhere n k bits m q → s q ≡ before q

-- the target's lowest rows have these bits
abbrev pub Has : ℕ → Slots → (ℕ → Bool) → ℕ → Spots → Type 0
Has n m y i s = (v : ℕ) → v < i → s (row n m.target v) ≡ y v

module _ (n k l bits : ℕ) (m : Slots) (are : AreSlots n k l bits m) where
  pub cell_free : (w : ℕ) → IsFree n k bits m (row n (cells w) 0)
  cell_free w q e f = let g : is_state q.space ≡ true = ap (λ (s : Spot). is_state s.space) f in
      let h = e.no_state in cc

  pub cell_apart : (w v : ℕ) → row n m.target v ≡ row n (cells w) 0 → ⊥
  cell_apart w v f = let g : is_state (row n m.target v).space ≡ true =
      ap (λ (s : Spot). is_state s.space) f in let h = are.no_state v in cc

  pub bit_free : 0 < bits → IsFree n k bits m (row n (scratch_bit m.free_bit) 0)
  bit_free some q e f = e.bit some f

  pub kept_set : (before s : Spots) (p : Spot) (x : Bool) → IsFree n k bits m p
      → IsKept n k bits m before s → IsKept n k bits m before (set_spot s p x)
  kept_set before s p x free h q e = set_other s p x q (free q e) ∙ h q e

  pub has_set : (y : ℕ → Bool) (i : ℕ) (s : Spots) (p : Spot) (x : Bool) → i ≤ k
      → ((v : ℕ) → v < k → row n m.target v ≡ p → ⊥) → Has n m y i s
      → Has n m y i (set_spot s p x)
  has_set y i s p x le apart h v lv =
      set_other s p x (row n m.target v) (apart v (omega arith)) ∙ h v lv

  pub has_next : (y : ℕ → Bool) (i : ℕ) (s : Spots) (x : Bool) → i < k → x ≡ y i
      → Has n m y i s → Has n m y (suc i) (set_spot s (row n m.target i) x)
  has_next y i s x li e h v lv = ⊎_elim
      (λ (f : v ≡ i). set_same s (row n m.target i) x (row n m.target v) (ap (row n m.target) f)
      ∙ e ∙ ap y (sym f))
      (λ (ne : v ≡ i → ⊥). set_other s (row n m.target i) x (row n m.target v)
      (λ f. ne (are.moves v i (omega arith) li f)) ∙ h v (omega arith))
      (cases_eq v i)

  -- the target has all bits of the value
  pub done : (o : WordOp) (y : ℕ → Bool) (before s : Spots) → IsKept n k bits m before s
      → Has n m y k s → number y k ≡ value_of o n m before l → Gives o n k l bits m before s
  done o y before s kept has e = record { gives = value_same _ _ k has ∙ e; keeps = kept }

-- a body that writes a bit of the target, made of the arguments' bits there and of one row's bit
module _ (o : WordOp) (n k bits : ℕ) (m : Slots) (are : AreSlots n k k bits m)
    (before start : Spots) (kept : IsKept n k bits m before start) (r : Spot)
    (apart : (v : ℕ) → v < k → row n m.target v ≡ r → ⊥) (F : Bool → Bool → Bool → Bool)
    (e : number (λ i. F (before (row n m.a i)) (before (row n m.b i)) (start r)) k
    ≡ value_of o n m before k) where
  abbrev all : ℕ → Bool
  all i = F (before (row n m.a i)) (before (row n m.b i)) (start r)

  abbrev after : ℕ → Spots → Spots
  after i s = set_spot s (row n m.target i) (F (s (row n m.a i)) (s (row n m.b i)) (s r))

  abbrev Keeps : ℕ → Spots → Type 0
  Keeps i s = IsKept n k bits m before s × Has n m all i s × (s r ≡ start r)

  next : (i : ℕ) → i < k → (s : Spots) → Keeps i s → Keeps (suc i) (after i s)
  next i lt s h =
      let x = F (s (row n m.a i)) (s (row n m.b i)) (s r) in
      let fa = h.0 _ (are.a i lt) in
      let fb = h.0 _ (are.b i lt) in
      let fr = h.2 in
      let ex : x ≡ all i = cc in (
        kept_set n k k bits m are before s (row n m.target i) x (λ q f. f.target i lt) h.0,
        has_next n k k bits m are all i s x lt ex h.1,
        set_other s (row n m.target i) x r (λ f. apart i lt (sym f)) ∙ h.2,
      )

  first : Keeps 0 start
  first = (kept, (λ v lt. absurd (omega arith)), refl)

  pub at_bit : k ≡ 1 → Gives o n k k bits m before (after 0 start)
  at_bit one = let h = subst (λ i. Keeps i (after 0 start)) (sym one)
      (next 0 (omega arith) start first) in
      done n k k bits m are o all before (after 0 start) h.0 h.1 e

  pub at_each : (b : Block) → k ≡ n
      → ((i : ℕ) (s : Spots) → after_round n (round_at b i) s ≡ after i s)
      → Gives o n k k bits m before (after_rounds n (all_rounds n (Along b ∷ [])) start)
  at_each b full round = each n b [] Keeps
      (λ i lt s h. subst (Keeps (suc i)) (sym (round i s)) (next i (omega arith) s h))
      (Gives o n k k bits m before) (λ s h. let g = subst (λ i. Keeps i s) (sym full) h in
      done n k k bits m are o all before s g.0 g.1 e) start first

-- the target's bits, and a state in a row or in cells
module _ (o : WordOp) (n bits : ℕ) (m : Slots) (are : AreSlots n n n bits m) (before : Spots)
    (b : Block) (p : Spot) (free : IsFree n n bits m p)
    (apart : (v : ℕ) → v < n → row n m.target v ≡ p → ⊥) (x : Bool)
    (Y C : Bool → Bool → Bool → Bool)
    (round : (i : ℕ) (s : Spots) → after_round n (round_at b i) s
    ≡ set_spot (set_spot s (row n m.target i) (Y (s (row n m.a i)) (s (row n m.b i)) (s p))) p
    (C (s (row n m.a i)) (s (row n m.b i)) (s p))) where
  -- the state before a position
  abbrev carry : ℕ → Bool
  carry zero = x
  carry (suc i) = C (before (row n m.a i)) (before (row n m.b i)) (carry i)

  abbrev digit : ℕ → Bool
  digit i = Y (before (row n m.a i)) (before (row n m.b i)) (carry i)

  abbrev Holds : ℕ → Spots → Type 0
  Holds i s = IsKept n n bits m before s × Has n m digit i s × (s p ≡ carry i)

  on : (i : ℕ) → i < n → (s : Spots) → Holds i s
      → Holds (suc i) (after_round n (round_at b i) s)
  on i lt s h =
      let fa = h.0 _ (are.a i lt) in
      let fb = h.0 _ (are.b i lt) in
      let fc = h.2 in
      let t = row n m.target i in
      let y = Y (s (row n m.a i)) (s (row n m.b i)) (s p) in
      let c = C (s (row n m.a i)) (s (row n m.b i)) (s p) in
      let ey : y ≡ digit i = cc in
      let ec : c ≡ carry (suc i) = cc in
      subst (Holds (suc i)) (sym (round i s)) (
        kept_set n n n bits m are before (set_spot s t y) p c free
            (kept_set n n n bits m are before s t y (λ q f. f.target i lt) h.0),
        has_set n n n bits m are digit (suc i) (set_spot s t y) p c (omega arith) apart
            (has_next n n n bits m are digit i s y lt ey h.1),
        set_same (set_spot s t y) p c p refl ∙ ec,
      )

  pub carry_does : ((y c : ℕ → Bool) → c 0 ≡ x
      → ((i : ℕ) → y i ≡ Y (before (row n m.a i)) (before (row n m.b i)) (c i))
      → ((i : ℕ) → c (suc i) ≡ C (before (row n m.a i)) (before (row n m.b i)) (c i))
      → number y n ≡ value_of o n m before n) → Gives o n n n bits m before
      (after_rounds n (all_rounds n (Along b ∷ [])) (set_spot before p x))
  carry_does e = each n b [] Holds on (Gives o n n n bits m before)
      (λ s h. done n n n bits m are o digit before s h.0 h.1
      (e digit carry refl (λ i. refl) (λ i. refl))) (set_spot before p x) (
        kept_set n n n bits m are before before p x free (λ q f. refl),
        (λ v lt. absurd (omega arith)),
        set_same before p x p refl,
      )

-- two states
module _ (n k bits : ℕ) (m : Slots) (are : AreSlots n k n bits m) (before : Spots) (b : Block)
    (p q : Spot) (ne : p ≡ q → ⊥) (pf : IsFree n k bits m p) (qf : IsFree n k bits m q)
    (G H : Bool → Bool → Bool → Bool → Bool)
    (round : (i : ℕ) (s : Spots) → after_round n (round_at b i) s
    ≡ set_spot (set_spot s p (G (s (row n m.a i)) (s (row n m.b i)) (s p) (s q))) q
    (H (s (row n m.a i)) (s (row n m.b i)) (s p) (s q))) (start : Spots) where
  abbrev pub states : ℕ → Bool × Bool
  states zero = (start p, start q)
  states (suc i) = (
    G (before (row n m.a i)) (before (row n m.b i)) (states i).0 (states i).1,
    H (before (row n m.a i)) (before (row n m.b i)) (states i).0 (states i).1,
  )

  -- states that get the same stay the same
  pub level : ((x y u v : Bool) → G x y u v ≡ H x y u v) → (i : ℕ) → 0 < i
      → (states i).0 ≡ (states i).1
  level h zero lt = absurd (omega arith)
  level h (suc i) lt = h _ _ _ _

  abbrev Are : ℕ → Spots → Type 0
  Are i s = IsKept n k bits m before s × (s p ≡ (states i).0) × (s q ≡ (states i).1)

  go : (i : ℕ) → i < n → (s : Spots) → Are i s → Are (suc i) (after_round n (round_at b i) s)
  go i lt s h =
      let fa = h.0 _ (are.a i lt) in
      let fb = h.0 _ (are.b i lt) in
      let fp = h.1 in
      let fq = h.2 in
      let x = G (s (row n m.a i)) (s (row n m.b i)) (s p) (s q) in
      let y = H (s (row n m.a i)) (s (row n m.b i)) (s p) (s q) in
      let ex : x ≡ (states (suc i)).0 = cc in
      let ey : y ≡ (states (suc i)).1 = cc in
      subst (Are (suc i)) (sym (round i s)) (
        kept_set n k n bits m are before (set_spot s p x) q y qf
            (kept_set n k n bits m are before s p x pf h.0),
        set_other (set_spot s p x) q y p ne ∙ set_same s p x p refl ∙ ex,
        set_same (set_spot s p x) q y q refl ∙ ey,
      )

  pub states_does : (ss : List (StepOf Block)) (P : Spots → Type 0) → IsKept n k bits m before start
      → ((s : Spots) → IsKept n k bits m before s → s p ≡ (states n).0 → s q ≡ (states n).1
      → P (after_rounds n (all_rounds n ss) s))
      → P (after_rounds n (all_rounds n (Along b ∷ ss)) start)
  states_does ss P kept end = each n b ss Are go P (λ s h. end s h.0 h.1 h.2) start
      (kept, refl, refl)
