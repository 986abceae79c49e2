-- What the code of a flow builds: places one after another, and from its end moves and steps.
use Rattle.loop_front.proofs.Common.{◌≡◌, ℕ, ◌+◌, ◌-◌, ◌<◌, List, [], ◌∷◌, ◌++◌, length, get_or}
use Rattle.loop_front.proofs.Common.{take, drop, map, refl, sym, ap, ◌∙◌, arith, zero, suc, ◌≤◌}
use Rattle.loop_front.proofs.Common.{set, Move, Sub, Block, step_of, FlowOf, Put}
use Rattle.std.proofs.Math.Seq.{take-length}
use Rattle.loop_ir.specs.declared.ir.Step.{Step}
use Rattle.loop_front.specs.Front.{put_all, each_sub, step_flow, steps_flow}

pub put_both : {A : Type 0} (xs ys : List Move) (k : FlowOf A)
    → put_all (xs ++ ys) k ≡ put_all xs (put_all ys k)
put_both [] ys k = refl
put_both (m ∷ xs) ys k = ap (Put m) (put_both xs ys k)

-- the moves of the first subscript, and then those of the rest
pub put_first : {A : Type 0} (f : Sub → ℕ → List Move) (ss rest : List Sub) (s : Sub) (r : ℕ)
    (mid k : FlowOf A) → ss ≡ s ∷ rest → mid ≡ put_all (each_sub f rest (r + 1)) k
    → put_all (f s r) mid ≡ put_all (each_sub f ss r) k
put_first f ss rest s r mid k e m = ap (put_all (f s r)) m
    ∙ sym (put_both (f s r) (each_sub f rest (r + 1)) k)
    ∙ ap (λ (xs : List Sub). put_all (each_sub f xs r) k) (sym e)

pub first_is : {A : Type 0} (xs : List A) (d : A) → 0 < length xs
    → xs ≡ get_or xs 0 d ∷ take (length xs - 1) (drop 1 xs)
first_is [] d l = absurd (omega arith)
first_is (x ∷ xs) d l = let e : length (x ∷ xs) - 1 ≡ length xs = omega arith in
    rw (e, take-length xs) refl

steps_last : (xs : List Step) (x : Step) (k : FlowOf Block)
    → steps_flow (map step_of (xs ++ x ∷ [])) k
    ≡ steps_flow (map step_of xs) (step_flow (step_of x) k)
steps_last [] x k = refl
steps_last (y ∷ xs) x k = ap (step_flow (step_of y)) (steps_last xs x k)

pub steps_popped : (all xs : List Step) (x : Step) (k : FlowOf Block) → all ≡ xs ++ x ∷ []
    → steps_flow (map step_of all) k ≡ steps_flow (map step_of xs) (step_flow (step_of x) k)
steps_popped all xs x k e = ap (λ ys. steps_flow (map step_of ys) k) e ∙ steps_last xs x k

module _ {A : Type 0} (f : A → A) where
  -- the first so many are changed
  abbrev pub changed : ℕ → List A → List A
  changed k xs = map f (take k xs) ++ drop k xs

  -- and one more
  pub change_one : (k : ℕ) (xs : List A) (d : A) → k < length xs
      → set (changed k xs) k (f (get_or (changed k xs) k d)) ≡ changed (k + 1) xs
  change_one k [] d lt = absurd (omega arith)
  change_one zero (x ∷ xs) d lt = refl
  change_one (suc k) (x ∷ xs) d lt =
      let e : suc k + 1 ≡ suc (k + 1) = omega arith in
      ap (λ ys. f x ∷ ys) (change_one k xs d (omega (arith, lt)))
      ∙ ap (λ j. changed j (x ∷ xs)) (sym e)

  pub change_all : (k : ℕ) (xs : List A) → length xs ≤ k → changed k xs ≡ map f xs
  change_all zero [] le = refl
  change_all (suc k) [] le = refl
  change_all zero (x ∷ xs) le = absurd (omega arith)
  change_all (suc k) (x ∷ xs) le = ap (λ ys. f x ∷ ys) (change_all k xs (omega (arith, le)))
