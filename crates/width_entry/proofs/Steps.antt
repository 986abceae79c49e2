-- Single steps of a walk, where only the first two registers are used.
use Rattle.width_entry.proofs.Common.{◌≡◌, ℕ, suc, ◌+◌, List, [], ◌∷◌, ◌++◌, length, refl, ap, ◌∙◌}
use Rattle.width_entry.proofs.Common.{arith, Some, ◌-◌, true, if◌then◌else◌, nat_le, slice_get}
use Rattle.width_entry.proofs.Common.{eqb-suc-zero, le-leb, Register, Uop, SetI, SetN, SubI, Bnez}
use Rattle.width_entry.proofs.Common.{Shape, Stuck, Trace, act, act_at, issue}

-- the first of the second part of a list
pub seam : {X : Type 0} (pre : List X) (x : X) (post : List X)
    → slice_get (pre ++ x ∷ post) (length pre) ≡ Some x
seam [] x post = refl
seam (y ∷ pre) x post = seam pre x post

-- an element of the second part of a list
pub beyond : {X : Type 0} (pre xs : List X) (k j : ℕ) → j ≡ k + length pre
    → slice_get (pre ++ xs) j ≡ slice_get xs k
beyond [] xs k j e = let same : j ≡ k = omega arith in ap (slice_get xs) same
beyond (y ∷ pre) xs k j e =
    let next : j ≡ suc (k + length pre) = omega arith in
    ap (slice_get (y ∷ (pre ++ xs))) next ∙ beyond pre xs k (k + length pre) refl

-- eight registers, all 0 but the first two
abbrev pub two : ℕ → ℕ → List ℕ
two a b = a ∷ b ∷ 0 ∷ 0 ∷ 0 ∷ 0 ∷ 0 ∷ 0 ∷ []

module _ (shape : Shape) (code : List Uop) (n : ℕ) where
  more : (left pc : ℕ) (regs : List ℕ) → issue shape code n (suc left) pc regs
      ≡ act_at shape n (slice_get code pc) (issue shape code n left) pc regs
  unfolding issue
  more left pc regs = refl

  -- the instruction at a place is done, where the budget has one more
  pub step : (all left pc : ℕ) (regs : List ℕ) (u : Uop) → all ≡ suc left
      → slice_get code pc ≡ Some u
      → issue shape code n all pc regs ≡ act shape n u (issue shape code n left) pc regs
  step all left pc regs u e at =
      ap (λ m. issue shape code n m pc regs) e
      ∙ more left pc regs
      ∙ ap (λ o. act_at shape n o (issue shape code n left) pc regs) at

  -- what is issued from a place on
  abbrev pub go : ℕ → ℕ → ℕ → ℕ → Trace
  go left pc a b = issue shape code n left pc (two a b)

  pub set_first : (k all left pc a b : ℕ) → all ≡ suc left → slice_get code pc ≡ Some (SetI 0 k)
      → go all pc a b ≡ go left (pc + 1) k b
  set_first k all left pc a b e at = step all left pc (two a b) (SetI 0 k) e at

  pub set_second : (k all left pc a b : ℕ) → all ≡ suc left → slice_get code pc ≡ Some (SetI 1 k)
      → go all pc a b ≡ go left (pc + 1) a k
  set_second k all left pc a b e at = step all left pc (two a b) (SetI 1 k) e at

  pub set_width : (all left pc a b : ℕ) → all ≡ suc left → slice_get code pc ≡ Some (SetN 0)
      → go all pc a b ≡ go left (pc + 1) n b
  set_width all left pc a b e at = step all left pc (two a b) (SetN 0) e at

  pub less_first : (all left pc a b : ℕ) → all ≡ suc left → slice_get code pc ≡ Some (SubI 0 1)
      → go all pc (suc a) b ≡ go left (pc + 1) a b
  less_first all left pc a b e at =
      let one : nat_le 1 (suc a) ≡ true = le-leb 1 (suc a) (omega arith) in
      let less : suc a - 1 ≡ a = omega arith in
      step all left pc (two (suc a) b) (SubI 0 1) e at
      ∙ ap (λ c. if c then go left (pc + 1) (suc a - 1) b else Stuck pc Register) one
      ∙ ap (λ x. go left (pc + 1) x b) less

  pub less_second : (all left pc a b : ℕ) → all ≡ suc left → slice_get code pc ≡ Some (SubI 1 1)
      → go all pc a (suc b) ≡ go left (pc + 1) a b
  less_second all left pc a b e at =
      let one : nat_le 1 (suc b) ≡ true = le-leb 1 (suc b) (omega arith) in
      let less : suc b - 1 ≡ b = omega arith in
      step all left pc (two a (suc b)) (SubI 1 1) e at
      ∙ ap (λ c. if c then go left (pc + 1) a (suc b - 1) else Stuck pc Register) one
      ∙ ap (λ x. go left (pc + 1) a x) less

  pub jump_first : (t all left pc a b : ℕ) → all ≡ suc left → slice_get code pc ≡ Some (Bnez 0 t)
      → go all pc (suc a) b ≡ go left t (suc a) b
  jump_first t all left pc a b e at =
      step all left pc (two (suc a) b) (Bnez 0 t) e at
      ∙ ap (λ c. if c then go left (pc + 1) (suc a) b else go left t (suc a) b) (eqb-suc-zero a)

  pub stay_first : (t all left pc b : ℕ) → all ≡ suc left → slice_get code pc ≡ Some (Bnez 0 t)
      → go all pc 0 b ≡ go left (pc + 1) 0 b
  stay_first t all left pc b e at = step all left pc (two 0 b) (Bnez 0 t) e at

  pub jump_second : (t all left pc a b : ℕ) → all ≡ suc left
      → slice_get code pc ≡ Some (Bnez 1 t) → go all pc a (suc b) ≡ go left t a (suc b)
  jump_second t all left pc a b e at =
      step all left pc (two a (suc b)) (Bnez 1 t) e at
      ∙ ap (λ c. if c then go left (pc + 1) a (suc b) else go left t a (suc b)) (eqb-suc-zero b)

  pub stay_second : (t all left pc a : ℕ) → all ≡ suc left → slice_get code pc ≡ Some (Bnez 1 t)
      → go all pc a 0 ≡ go left (pc + 1) a 0
  stay_second t all left pc a e at = step all left pc (two a 0) (Bnez 1 t) e at
