-- The test of a width: where it leads at the width and at others, and in how many instructions.
use Rattle.width_entry.proofs.Common.{◌≡◌, ℕ, zero, suc, ◌+◌, ◌*◌, List, refl, ap, ◌∙◌, arith, Some}
use Rattle.width_entry.proofs.Common.{slice_get, Uop, SetI, SetN, SubI, Bnez, Shape}
use Rattle.width_entry.proofs.Steps.{go, set_first, set_second, set_width, less_first, less_second}
use Rattle.width_entry.proofs.Steps.{jump_first, stay_first, jump_second, stay_second}

-- the code begins with the test
pub record BeginsWithTest (n other : ℕ) (code : List Uop) : Type 0 where
  pub at0 : slice_get code 0 ≡ Some (SetN 0)
  pub at1 : slice_get code 1 ≡ Some (SetI 1 n)
  pub at2 : slice_get code 2 ≡ Some (Bnez 0 4)
  pub at3 : slice_get code 3 ≡ Some (Bnez 1 other)
  pub at4 : slice_get code 4 ≡ Some (SubI 0 1)
  pub at5 : slice_get code 5 ≡ Some (SubI 1 1)
  pub at6 : slice_get code 6 ≡ Some (Bnez 1 2)
  pub at7 : slice_get code 7 ≡ Some (Bnez 0 other)

module _ (shape : Shape) (code : List Uop) (n m other : ℕ) (t : BeginsWithTest n other code) where
  abbrev at : ℕ → ℕ → ℕ → ℕ → Rattle.uprog_code.specs.Machine.Trace
  at = go shape code m

  -- one iteration that takes 1 from both
  once : (all left a b : ℕ) → all ≡ left + 3 → at all 2 (suc a) (suc b) ≡ at left 6 a b
  once all left a b e =
      jump_first shape code m 4 all (left + 2) 2 a (suc b) (omega arith) t.at2
      ∙ less_first shape code m (left + 2) (left + 1) 4 a (suc b) (omega arith) t.at4
      ∙ less_second shape code m (left + 1) left 5 a b (omega arith) t.at5

  again : (all left a b : ℕ) → all ≡ left + 1 → at all 6 a (suc b) ≡ at left 2 a (suc b)
  again all left a b e = jump_second shape code m 2 all left 6 a b (omega arith) t.at6

  -- both are the same
  pub same : (b left all : ℕ) → all ≡ left + (4 * b + 5)
      → at all 2 (suc b) (suc b) ≡ at left 8 0 0
  same zero left all e =
      once all (left + 2) 0 0 (omega arith)
      ∙ stay_second shape code m 2 (left + 2) (left + 1) 6 0 (omega arith) t.at6
      ∙ stay_first shape code m other (left + 1) left 7 0 (omega arith) t.at7
  same (suc b) left all e =
      once all (left + (4 * b + 6)) (suc b) (suc b) (omega arith)
      ∙ again (left + (4 * b + 6)) (left + (4 * b + 5)) (suc b) b (omega arith)
      ∙ same b left (left + (4 * b + 5)) refl

  -- the first is less
  pub below : (a d b left all : ℕ) → suc b ≡ a + suc d → all ≡ left + (4 * a + 2)
      → at all 2 a (suc b) ≡ at left other 0 (suc d)
  below zero d b left all s e =
      let all_of : suc b ≡ suc d = omega arith in
      ap (at all 2 0) all_of
      ∙ stay_first shape code m 4 all (left + 1) 2 (suc d) (omega arith) t.at2
      ∙ jump_second shape code m other (left + 1) left 3 0 d (omega arith) t.at3
  below (suc a) d b left all s e =
      let more : b ≡ suc (a + d) = omega arith in
      once all (left + (4 * a + 3)) a b (omega arith)
      ∙ ap (at (left + (4 * a + 3)) 6 a) more
      ∙ again (left + (4 * a + 3)) (left + (4 * a + 2)) a (a + d) (omega arith)
      ∙ below a d (a + d) left (left + (4 * a + 2)) (omega arith) refl

  -- the first is greater
  pub above : (b d a left all : ℕ) → a ≡ b + suc d → all ≡ left + (4 * b + 5)
      → at all 2 (suc a) (suc b) ≡ at left other (suc d) 0
  above zero d a left all s e =
      let all_of : a ≡ suc d = omega arith in
      once all (left + 2) a 0 (omega arith)
      ∙ stay_second shape code m 2 (left + 2) (left + 1) 6 a (omega arith) t.at6
      ∙ ap (λ x. at (left + 1) 7 x 0) all_of
      ∙ jump_first shape code m other (left + 1) left 7 d 0 (omega arith) t.at7
  above (suc b) d a left all s e =
      let more : a ≡ suc (b + suc d) = omega arith in
      once all (left + (4 * b + 6)) a (suc b) (omega arith)
      ∙ again (left + (4 * b + 6)) (left + (4 * b + 5)) a b (omega arith)
      ∙ ap (λ x. at (left + (4 * b + 5)) 2 x (suc b)) more
      ∙ above b d (b + suc d) left (left + (4 * b + 5)) refl refl

  -- both are set first
  pub begun : (all left : ℕ) → all ≡ left + 2 → at all 0 0 0 ≡ at left 2 m n
  begun all left e =
      set_width shape code m all (left + 1) 0 0 0 (omega arith) t.at0
      ∙ set_second shape code m n (left + 1) left 1 m 0 (omega arith) t.at1

  -- and both set to 0 at the other place
  pub cleared : (all left a b : ℕ) → all ≡ left + 2 → slice_get code other ≡ Some (SetI 0 0)
      → slice_get code (other + 1) ≡ Some (SetI 1 0)
      → at all other a b ≡ at left (other + 1 + 1) 0 0
  cleared all left a b e first second =
      set_first shape code m 0 all (left + 1) other a b (omega arith) first
      ∙ set_second shape code m 0 (left + 1) left (other + 1) 0 b (omega arith) second
