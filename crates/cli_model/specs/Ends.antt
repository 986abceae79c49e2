-- How every command ends: its status, why, what was sent and which files stand, over its steps.
use Rattle.std.specs.Prelude.{◌≡◌, ◌⊎◌, ℕ, ◌+◌, Bool, true, false, List, [], ◌∷◌, ◌++◌}
use Rattle.std.specs.Prelude.{Some, IfSome}
use Rattle.std.specs.List.{list_any}
use Rattle.host_edge.specs.Views.{Files, Known, IsPrefix}
use Rattle.faults.specs.Counts.{Rose, RoseBy}
use Rattle.cli_model.specs.World.{World}
use Rattle.cli_model.specs.Waves.{IsLeftBy, StoppedIn}
use Rattle.cli_model.specs.Steps.{Step, Load, Take, Store, Open, Use, UseFor, Put, Print, Reason}
use Rattle.cli_model.specs.Steps.{CannotRead, TooLong, Refused, NoMemory, CannotWrite, PutFailed}
use Rattle.cli_model.specs.Steps.{ChipFailed}
use Rattle.cli_model.specs.Steps.{Done, IsLeftUnopened, Stopped, Unopened}
use Rattle.cli_model.specs.Stands.{files_after, sent_by, all_left, CountsOn, NoneRose}
use Rattle.cli_model.specs.Status.{reason_status, reason_line}
use Rattle.cli_model.specs.Foreseen.{foreseen}

-- Where a command stopped: the steps before, whose stores and lines stand; the one that failed, and
-- for which reason; and those after
pub record Stop : Type 0 where
  pub before : List Step
  pub failed : Step
  pub following : List Step
  pub reason : Reason

-- all steps were done, or it stopped
pub data Ended : Type 0 where
  All : Ended
  At : Stop → Ended

-- Why a step fails: a count rose in this call, the text of its file is refused, or it is out of
-- memory; and where the chip failed, what then stands in it
abbrev pub Causes : Step → Reason → World → World → Type 0
Causes (Load name limit text refusal) (CannotRead said) old new =
    (said ≡ name) × Rose (old.files.load_faults name) (new.files.load_faults name)
Causes (Load name limit text refusal) (TooLong said) old new =
    (said ≡ name) × RoseBy (limit + 1) old.files.taken new.files.taken
Causes (Load name limit text refusal) (Refused said) old new = refusal ≡ Some said
Causes (Load name limit text refusal) NoMemory old new = Unit {0}
Causes (Load name limit text refusal) _ old new = ⊥
Causes Take reason old new = reason ≡ NoMemory
Causes (Store name bytes) reason old new =
    (reason ≡ CannotWrite name) × Rose old.files.store_faults new.files.store_faults
Causes (Open on) reason old new = (reason ≡ NoMemory) ⊎ ((reason ≡ ChipFailed)
    × Rose old.chip.faults new.chip.faults × IsLeftUnopened on new.chip)
Causes (Use on) reason old new = (reason ≡ ChipFailed)
    × Rose old.chip.faults new.chip.faults × IsLeftBy on new.chip.banks
Causes (UseFor wave) reason old new = (reason ≡ ChipFailed)
    × Rose old.chip.faults new.chip.faults × StoppedIn wave new.chip.banks
Causes (Put bytes) reason old new =
    (reason ≡ PutFailed) × Rose old.sink.faults new.sink.faults
Causes (Print on bytes) reason old new =
    ((reason ≡ PutFailed) × Rose old.sink.faults new.sink.faults)
    ⊎ ((reason ≡ ChipFailed) × Rose old.chip.faults new.chip.faults × IsLeftBy on new.chip.banks)

-- what is sent last of a line that is sent while the chip is read: the line, or the part of it that
-- was sent before the chip failed, and then the line that tells this
abbrev pub LastOfPrint : List ℕ → Reason → List ℕ → Type 0
LastOfPrint bytes PutFailed last = last ≡ bytes
LastOfPrint bytes reason last =
    (part : List ℕ) × IsPrefix part bytes × (last ≡ part ++ reason_line reason)

-- what is sent last: the line that tells why, or what could not be put
abbrev pub IsLast : Step → Reason → List ℕ → Type 0
IsLast (Load name limit text refusal) reason last = last ≡ reason_line reason
IsLast Take reason last = last ≡ reason_line reason
IsLast (Store name bytes) reason last = last ≡ reason_line reason
IsLast (Open on) reason last = last ≡ reason_line reason
IsLast (Use on) reason last = last ≡ reason_line reason
IsLast (UseFor wave) reason last = last ≡ reason_line reason
IsLast (Put bytes) reason last = last ≡ bytes
IsLast (Print on bytes) reason last = LastOfPrint bytes reason last

-- a part of the last bytes came after those that are certain
abbrev pub AppendsAfter : (certain last : List ℕ) → List ℕ → List ℕ → Type 0
AppendsAfter certain last old new =
    (part : List ℕ) × (IsPrefix part last × (new ≡ old ++ (certain ++ part)))

-- all of it was sent, or a part of the last bytes is missing and the sink's count of faults rose
abbrev pub Sends : (certain last : List ℕ) → World → World → Type 0
Sends certain last old new =
    Known (λ before after. after ≡ before ++ (certain ++ last)) old.sink.sent new.sink.sent
    ⊎ (Rose old.sink.faults new.sink.faults
    × Known (AppendsAfter certain last) old.sink.sent new.sink.sent)

-- the step stores the file of this name
abbrev pub IsStoreOf : List ℕ → Step → Type 0
IsStoreOf name (Store other bytes) = name ≡ other
IsStoreOf name (Load other limit text refusal) = ⊥
IsStoreOf name Take = ⊥
IsStoreOf name (Open on) = ⊥
IsStoreOf name (Use on) = ⊥
IsStoreOf name (UseFor wave) = ⊥
IsStoreOf name (Put bytes) = ⊥
IsStoreOf name (Print on bytes) = ⊥

-- The files are as the stores before it left them, but for one that could not be stored
abbrev pub LeavesFiles : Stop → Files → Files → Type 0
LeavesFiles stop old new = (name : List ℕ) → (IsStoreOf name stop.failed → ⊥)
    → new name ≡ files_after stop.before old name

-- a step begins or uses the chip
abbrev pub is_on_chip : Step → Bool
is_on_chip (Load name limit text refusal) = false
is_on_chip Take = false
is_on_chip (Store name bytes) = false
is_on_chip (Open on) = true
is_on_chip (Use on) = true
is_on_chip (UseFor wave) = true
is_on_chip (Put bytes) = false
is_on_chip (Print on bytes) = true

-- the steps that were begun
abbrev pub begun_steps : List Step → Ended → List Step
begun_steps steps All = steps
begun_steps steps (At stop) = stop.before ++ stop.failed ∷ []

-- the steps that were done
abbrev pub done_steps : List Step → Ended → List Step
done_steps steps All = steps
done_steps steps (At stop) = stop.before

-- all of its steps were done, and no call of the folder, the sink or the chip failed
pub record IsAllDone (steps : List Step) (done : ℕ) (old new : World) (status : ℕ) : Type 0 where
  pub answers : status ≡ done
  pub sent : Known (λ before after. after ≡ before ++ sent_by steps) old.sink.sent new.sink.sent
  pub files : Known (λ before after. after ≡ files_after steps before) old.files.holds
      new.files.holds
  pub unfailed : NoneRose old new

-- it stopped there
pub record IsStopped (steps : List Step) (stop : Stop) (old new : World) (status : ℕ) : Type 0 where
  pub place : stop.before ++ stop.failed ∷ stop.following ≡ steps
  pub answers : status ≡ reason_status stop.reason
  pub causes : Causes stop.failed stop.reason old new
  pub sent : (last : List ℕ)
      × IsLast stop.failed stop.reason last × Sends (sent_by stop.before) last old new
  pub files : Known (LeavesFiles stop) old.files.holds new.files.holds

-- How the command ended, by where its steps did.
abbrev pub EndsSo : List Step → ℕ → Ended → World → World → ℕ → Type 0
EndsSo steps done All old new status = IsAllDone steps done old new status
EndsSo steps done (At stop) old new status = IsStopped steps stop old new status

-- a fault that no file foretells: one that a count tells, or out of memory
abbrev pub IsFault : Reason → Type 0
IsFault (CannotRead name) = Unit {0}
IsFault (TooLong name) = ⊥
IsFault (Refused refusal) = ⊥
IsFault NoMemory = Unit {0}
IsFault (CannotWrite name) = Unit {0}
IsFault PutFailed = Unit {0}
IsFault ChipFailed = Unit {0}

-- the files let all steps before pass, and it ends as they foretell, or by a fault
abbrev pub IsForetold : List Step → Ended → Files → Type 0
IsForetold steps All files = foreseen steps files ≡ Done
IsForetold steps (At stop) files = (foreseen stop.before files ≡ Done)
    × ((foreseen steps files ≡ Stopped stop.reason) ⊎ IsFault stop.reason)

-- it stopped out of memory
abbrev pub Wants : Ended → Type 0
Wants All = ⊥
Wants (At stop) = stop.reason ≡ NoMemory

-- a call of the chip may have failed in a step that failed for this reason
abbrev pub may_fault : Step → Reason → Bool
may_fault (Open on) NoMemory = true
may_fault step ChipFailed = true
may_fault step reason = false

-- it stopped in such a step
abbrev pub is_chip_fault : Ended → Bool
is_chip_fault All = false
is_chip_fault (At stop) = may_fault stop.failed stop.reason

-- A command of these steps ends with this status, and with `done` where all of them were done. No
-- count of faults falls, and the chip's rises in the step alone where it stopped. Where it did not,
-- the banks hold what the steps that were begun leave. The chip is as it was where no step on it
-- was begun, and where none was done, a command out of memory leaves it as it was or not begun
pub record Ends (steps : List Step) (done : ℕ) (old new : World) (status : ℕ) : Type 0 where
  pub ended : Ended
  pub so : EndsSo steps done ended old new status
  pub foretold : IfSome old.files.holds (IsForetold steps ended)
  pub counts : CountsOn old new
  pub faults : is_chip_fault ended ≡ false → new.chip.faults ≡ old.chip.faults
  pub banks : is_chip_fault ended ≡ false
      → new.chip.banks ≡ all_left (begun_steps steps ended) old.chip.banks
  pub chip : list_any is_on_chip (begun_steps steps ended) ≡ false → new.chip ≡ old.chip
  pub unopened : list_any is_on_chip (done_steps steps ended) ≡ false → Wants ended
      → Unopened old.chip new.chip
