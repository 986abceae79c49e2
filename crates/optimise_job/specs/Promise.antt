-- What a program with straight lines at one width keeps of the program that it was made of.
use Rattle.std.specs.Prelude.{◌≡◌, ◌≢◌, ℕ, ◌<◌, ◌≤◌, List, [], ◌∷◌, Ok, Some}
use Rattle.bit_rows.specs.declared.TheConstants.{WIDTH_MAX}
use Rattle.uprog_code.specs.declared.walker.Counts.{Counts}
use Rattle.uprog_code.specs.Shape.{Microprogram}
use Rattle.uprog_code.specs.Machine.{trace}
use Rattle.uprog_code.specs.Count.{walked}
use Rattle.uprog_code.specs.Texts.{TextOp}
use Rattle.width_entry.specs.Widths.{IssuesSame}
use Rattle.verify_core.specs.Verdicts.{DoesAt}
use Rattle.optimise_job.specs.declared.offer.Outcome.{Outcome}
use Rattle.optimise_job.specs.declared.offer.Outcome.TheVariants as outcome
use Rattle.optimise_job.specs.Outcomes.{commands, op_named}

-- r is e at each width but n; at n it does the op of its name if e does, in no more commands
pub record IsAsGood (n : ℕ) (ops : List TextOp) (e r : Microprogram) : Type 0 where
  pub name : r.name ≡ e.name
  pub shape : r.shape ≡ e.shape
  pub elsewhere : (m : ℕ) → 0 < m → m ≤ WIDTH_MAX → m ≢ n → IssuesSame e r m
  pub does : (o : TextOp) → op_named ops e.name ≡ Some o → DoesAt n e o → DoesAt n r o
  pub no_more : (before : Counts) → walked (trace e.shape e.code n) ≡ Ok before
      → (after : Counts) × (walked (trace r.shape r.code n) ≡ Ok after)
      × (commands after ≤ commands before)

-- each entry is, in order
abbrev pub AreAsGood : ℕ → List TextOp → List Microprogram → List Microprogram → Type 0
AreAsGood n ops [] [] = Unit {0}
AreAsGood n ops [] (r ∷ rs) = ⊥
AreAsGood n ops (e ∷ es) [] = ⊥
AreAsGood n ops (e ∷ es) (r ∷ rs) = IsAsGood n ops e r × AreAsGood n ops es rs

-- unless it is not known that the entry did its op at the width, what came of it does
abbrev pub IsRightIfKnown : ℕ → List TextOp → Microprogram → Outcome → Type 0
IsRightIfKnown n ops r (outcome.Unproved verdict) = Unit {0}
IsRightIfKnown n ops r x = (o : TextOp) → op_named ops r.name ≡ Some o → DoesAt n r o

-- each of them, in order
abbrev pub AreRightIfKnown : ℕ → List TextOp → List Microprogram → List Outcome → Type 0
AreRightIfKnown n ops [] [] = Unit {0}
AreRightIfKnown n ops [] (x ∷ xs) = ⊥
AreRightIfKnown n ops (r ∷ rs) [] = ⊥
AreRightIfKnown n ops (r ∷ rs) (x ∷ xs) =
    IsRightIfKnown n ops r x × AreRightIfKnown n ops rs xs
