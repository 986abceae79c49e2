-- How a plan is gone through, and how it ends.
use Rattle.std.specs.Prelude.{◌≡◌, ◌⊎◌, ℕ, Option, Some, None}
use Rattle.std.specs.Prelude.{Result, Ok, Err, IfSome}
use Rattle.dram_model.specs.View.{ChipView}
use Rattle.cli_model.specs.World.{World}
use Rattle.cli_model.specs.Steps.{Refusal, Reason}
use Rattle.cli_model.specs.Steps.{Refused, Done, Stopped, Goes}
use Rattle.cli_model.specs.Status.{Says}
use Rattle.cli_model.specs.Ends.{Ended, All, At, Ends}
use Rattle.cli_model.specs.Plan.{Plan, Way, steps_of, AreTexts, refused_last, last_status, Leaves}

-- all of its steps were done and it answers this, or it stopped, or it is refused
abbrev pub Went : (plan : Plan) → Way plan → Result ℕ Reason → World → World → Type 0
Went plan way (Ok status) old new = Goes (steps_of plan way) Done old new
    × (refused_last plan way ≡ None) × (status ≡ last_status plan way)
    × Leaves plan way new.chip
Went plan way (Err reason) old new = Goes (steps_of plan way) (Stopped reason) old new
    ⊎ ((refusal : Refusal) × (refused_last plan way ≡ Some refusal) × (reason ≡ Refused refusal)
    × (last_status plan way ≡ refusal.status)
    × Goes (steps_of plan way) Done old new × Leaves plan way new.chip)

-- A plan was gone through
pub record Runs (plan : Plan) (old new : World) (result : Result ℕ Reason) : Type 0 where
  pub way : Way plan
  pub texts : IfSome old.files.holds (AreTexts plan way)
  pub went : Went plan way result old new

-- where its steps were done and it is refused, the line that tells why comes last; a failure to
-- send it is dropped
abbrev pub TellsLast : Ended → Option Refusal → World → World → Type 0
TellsLast All (Some refusal) old new = Says refusal.line old new
TellsLast All None old new = new ≡ old
TellsLast (At stop) refusal old new = new ≡ old

-- where all was done, the way leads to an end, which leaves the chip so
abbrev pub LeavesAt : Ended → (plan : Plan) → Way plan → ChipView → Type 0
LeavesAt All plan way chip = Leaves plan way chip
LeavesAt (At stop) plan way chip = Unit {0}

-- A command ends by its plan: on a way whose texts are those of the files, its first event decides
-- as in every command
pub record EndsBy (plan : Plan) (old new : World) (status : ℕ) : Type 0 where
  pub way : Way plan
  pub texts : IfSome old.files.holds (AreTexts plan way)
  pub stood : World
  pub ends : Ends (steps_of plan way) (last_status plan way) old stood status
  pub last : TellsLast ends.ended (refused_last plan way) stood new
  pub left : LeavesAt ends.ended plan way new.chip
