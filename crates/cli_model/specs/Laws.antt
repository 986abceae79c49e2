-- What follows of every command, whatever its steps are.
use Rattle.std.specs.Prelude.{◌≡◌, ◌≢◌, ◌⊎◌, ℕ, List, ◌++◌, true}
use Rattle.dram_model.specs.Chip.{Banks, Event, after}
use Rattle.cli_model.specs.World.{World}
use Rattle.cli_model.specs.Waves.{ChipUse}
use Rattle.cli_model.specs.Steps.{Step, Open, Use, ChipFailed}
use Rattle.cli_model.specs.Status.{Ran}
use Rattle.cli_model.specs.Ends.{Causes, Ends}

-- a command that goes through its steps ends by its first event
abbrev pub FirstDecides : Type 0
FirstDecides = (steps : List Step) (done : ℕ) (old new : World) (status : ℕ)
    → Ran steps done old new status → Ends steps done old new status

-- a bank stands where a first part of the events leaves it
abbrev pub HoldsPart : ChipUse → Banks → ℕ → Type 0
HoldsPart on left bank = (done : List Event) × (rest : List Event)
    × (done ++ rest ≡ on.events) × (left bank ≡ after done on.banks bank)

-- Where the chip failed at an opening and has begun, or at another use of it, a fault has changed
-- no two banks beyond the step's own events
abbrev pub OneBankIsLost : Type 0
OneBankIsLost = (on : ChipUse) (old new : World) (a b : ℕ) → a ≢ b → new.chip.begun ≡ true
    → Causes (Open on) ChipFailed old new ⊎ Causes (Use on) ChipFailed old new
    → HoldsPart on new.chip.banks a ⊎ HoldsPart on new.chip.banks b
