-- What there is to say of a command, in one record.
use Rattle.std.specs.Prelude.{◌≡◌, ◌⊎◌, ℕ, Bool, true, List, [], ◌∷◌, Option, None}
use Rattle.host_edge.specs.Views.{Files, Known}
use Rattle.cli_model.specs.World.{World}
use Rattle.cli_model.specs.Plan.{Plan}
use Rattle.cli_model.specs.Faultless.{IsSpared}

-- what a command says of the folder beside its plan: nothing, that each file is as at entry, or
-- that the whole folder is
pub data Keeps : Type 0 where
  ByPlan : Keeps
  AllFiles : Keeps
  WholeFolder : Keeps

-- what its plan says, and that
abbrev pub keeping : Keeps → Type 0 → World → World → Type 0
keeping ByPlan by_plan old new = by_plan
keeping AllFiles by_plan old new = by_plan × (new.files.holds ≡ old.files.holds)
keeping WholeFolder by_plan old new = by_plan × (new.files ≡ old.files)

pub record Facts : Type 1 where
  -- its plan, and what it keeps beside
  pub plan : Plan
  pub keeps : Keeps
  -- the statuses that it can answer, and those where it is done
  pub statuses : List ℕ
  pub done : List ℕ
  -- its files are apart, and its numbers in range
  pub apart : Bool
  pub numbers : Type 0
  -- each file that it loads is good
  pub good : (List ℕ → Option (List ℕ)) → Type 0
  -- what out of memory leaves
  pub spares : World → World → Type 0
  -- the statuses under which it promises, and what
  pub told : ℕ → Type 0
  pub promise : World → World → ℕ → Type 0

-- the status of a command that is done
abbrev pub IsZero : ℕ → Type 0
IsZero status = status ≡ 0

-- the statuses of a script that was done: no instruction was refused, or one was
abbrev pub IsZeroOrEight : ℕ → Type 0
IsZeroOrEight status = (status ≡ 0) ⊎ (status ≡ 8)

-- of the files before and after, where the folder tells its files
abbrev pub OfFiles : (Files → Files → World → World → ℕ → Type 0) → World → World → ℕ → Type 0
OfFiles P old new status = Known (λ before after. P before after old new status) old.files.holds
    new.files.holds

-- A command with this plan, these statuses and this promise, which is told by 0; out of memory, it
-- has sent nothing and begun no chip, and no file changed
abbrev pub plain : Plan → List ℕ → (World → World → ℕ → Type 0) → Facts
plain plan statuses promise = record {
  plan = plan;
  keeps = ByPlan;
  statuses = statuses;
  done = 0 ∷ [];
  apart = true;
  numbers = Unit {0};
  good = λ file. Unit {0};
  spares = IsSpared None;
  told = IsZero;
  promise = promise;
}
