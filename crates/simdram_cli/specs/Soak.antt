-- The command `soak`.
use Rattle.std.specs.Prelude.{◌≡◌, ℕ, List, ◌++◌}
use Rattle.host_edge.specs.Views.{Known}
use Rattle.uprog_code.specs.Shape.{Microprogram}
use Rattle.cli_model.specs.World.{World}
use Rattle.cli_model.specs.Stands.{sent_by}
use Rattle.cli_model.specs.Plan.{Answers, Makes, Plan, Then}
use Rattle.cli_model.specs.Runs.{EndsBy}
use Rattle.soak_job.specs.Cases.{soak_cases}
use Rattle.soak_job.specs.Steps.{AreProgramsOf, soak_steps}
use Rattle.soak_job.specs.Done.{SoakLeft}

-- programs of its cases are made, each of which implements its op, and the cases are done; the
-- chip's banks are then what the cases leave, and its counters the sums of what the lines tell
abbrev pub soak_plan : ℕ → Plan
soak_plan seed = Makes (AreProgramsOf soak_cases) (λ programs.
    Then (soak_steps seed programs) (Answers 0 (SoakLeft seed programs)))

-- it ends by its plan, and the folder is as it was
abbrev pub SoakEnds : ℕ → World → World → ℕ → Type 0
SoakEnds seed old new status =
    EndsBy (soak_plan seed) old new status × (new.files ≡ old.files)

-- Each case has a program, which implements its op; a line for each case, and the last line, were
-- sent, and no more; the chip's banks are what the cases leave, and its counters the sums of what
-- the lines tell; and the folder is as it was
pub record Soaked (seed : ℕ) (old new : World) : Type 0 where
  pub programs : List Microprogram
  pub are : AreProgramsOf soak_cases programs
  pub left : SoakLeft seed programs new.chip
  pub sent : Known (λ x y. y ≡ x ++ sent_by (soak_steps seed programs)) old.sink.sent new.sink.sent
  pub files : new.files ≡ old.files
