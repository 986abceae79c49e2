-- The steps of a command, and how it goes through them.
use Rattle.std.specs.Prelude.{◌≡◌, ◌⊎◌, ℕ, ◌+◌, ◌≤◌, List, [], ◌∷◌, ◌++◌, length, Option, Some}
use Rattle.std.specs.Prelude.{None, Result, Ok, Err, Bool, if◌then◌else◌}
use Rattle.host_edge.specs.Views.{Known, NoCountFalls, Unfailed, HasBytes, IsLonger, KeepsOthers}
use Rattle.faults.specs.Counts.{Rose, RoseBy}
use Rattle.host_edge.specs.Views.{AppendsPart}
use Rattle.dram_model.specs.Chip.{Banks, after}
use Rattle.dram_model.specs.View.{ChipView, NotBegun}
use Rattle.cli_model.specs.World.{World, with_file}
use Rattle.cli_model.specs.Waves.{ChipUse, ChipWave, banks_after, IsLeftBy, StoppedIn}

-- why a text is not accepted: the status, and the line that tells it
pub record Refusal : Type 0 where
  pub status : ℕ
  pub line : List ℕ

-- one step
pub data Step : Type 0 where
  -- the file of this name, of at most so many bytes, is loaded and holds this text, which may be
  -- refused
  Load : (name : List ℕ) (limit : ℕ) (text : List ℕ) → Option Refusal → Step
  -- memory is taken
  Take : Step
  -- the file of this name is set to these bytes
  Store : (name bytes : List ℕ) → Step
  -- memory is taken, the chip begins, and it is used so
  Open : ChipUse → Step
  -- the chip is used so
  Use : ChipUse → Step
  -- it is used for this wave
  UseFor : ChipWave → Step
  -- these bytes are sent
  Put : List ℕ → Step
  -- these bytes are sent while the chip is read, which has these banks
  Print : ChipUse → List ℕ → Step

-- a line is sent while the chip is read, or after the chip is used
abbrev pub line_steps : ChipUse → (prints : Bool) → List ℕ → List Step
line_steps on prints bytes = if prints then Print on bytes ∷ [] else Use on ∷ Put bytes ∷ []

-- a file is loaded; what its text is read as goes on, and a text that is refused ends the command
abbrev pub loading : {A : Type 0} → (name : List ℕ) (limit : ℕ) (text : List ℕ) → Result A Refusal
    → (A → List Step) → List Step
loading name limit text (Ok value) rest = Load name limit text None ∷ rest value
loading name limit text (Err refusal) rest = Load name limit text (Some refusal) ∷ []

-- why a command stopped
pub data Reason : Type 0 where
  CannotRead : List ℕ → Reason
  TooLong : List ℕ → Reason
  Refused : Refusal → Reason
  NoMemory : Reason
  CannotWrite : List ℕ → Reason
  PutFailed : Reason
  ChipFailed : Reason

-- how a command ended
pub data End : Type 0 where
  Done : End
  Stopped : Reason → End

-- no file changes, no count falls, and the sink and the chip are as they were
pub record ReadsOnly (old new : World) : Type 0 where
  pub files : new.files.holds ≡ old.files.holds
  pub counts : NoCountFalls old.files new.files
  pub sink : new.sink ≡ old.sink
  pub chip : new.chip ≡ old.chip

-- the file was loaded, and has this text; no call failed
pub record Loaded (name : List ℕ) (limit : ℕ) (text : List ℕ) (old new : World) : Type 0 where
  pub reads : ReadsOnly old new
  pub bytes : HasBytes old.files name text
  pub within : length text ≤ limit
  pub unfailed : Unfailed old.files new.files

-- the file was set to these bytes, no call failed, and all else is as it was
pub record Stored (name bytes : List ℕ) (old new : World) : Type 0 where
  pub files : Known (λ before after. after ≡ with_file name bytes before) old.files.holds
      new.files.holds
  pub counts : NoCountFalls old.files new.files
  pub unfailed : Unfailed old.files new.files
  pub sink : new.sink ≡ old.sink
  pub chip : new.chip ≡ old.chip

-- the chip was used, which left these banks; no call of it failed, and all else is as it was
pub record Used (banks : Banks) (old new : World) : Type 0 where
  pub files : new.files ≡ old.files
  pub sink : new.sink ≡ old.sink
  pub chip : new.chip.faults ≡ old.chip.faults
  pub left : new.chip.banks ≡ banks

-- the opening or another use of the chip failed: its count of faults does not fall, and all else is
-- as it was
pub record UseFailed (old new : World) : Type 0 where
  pub files : new.files ≡ old.files
  pub sink : new.sink ≡ old.sink
  pub chip : old.chip.faults ≤ new.chip.faults

-- bytes were sent, related so to what was sent before, and all else is as it was
pub record Sent (R : List ℕ → List ℕ → Type 0) (old new : World) : Type 0 where
  pub files : new.files ≡ old.files
  pub sent : Known R old.sink.sent new.sink.sent
  pub faults : old.sink.faults ≤ new.sink.faults
  pub chip : new.chip ≡ old.chip

-- the chip was read, which left these banks, and bytes were sent, related so to what was sent
-- before; no call of the chip failed, and all else is as it was
pub record Printed (R : List ℕ → List ℕ → Type 0) (banks : Banks) (old new : World) : Type 0 where
  pub files : new.files ≡ old.files
  pub sent : Known R old.sink.sent new.sink.sent
  pub faults : old.sink.faults ≤ new.sink.faults
  pub chip : new.chip.faults ≡ old.chip.faults
  pub left : new.chip.banks ≡ banks

-- the chip failed while these bytes were sent: a part of them was, and all else is as it was
pub record PrintFailed (bytes : List ℕ) (old new : World) : Type 0 where
  pub files : new.files ≡ old.files
  pub sent : Known (AppendsPart bytes) old.sink.sent new.sink.sent
  pub faults : old.sink.faults ≤ new.sink.faults
  pub chip : old.chip.faults ≤ new.chip.faults

-- the step was done
abbrev pub StepDone : Step → World → World → Type 0
StepDone (Load name limit text refusal) old new = (refusal ≡ None) × Loaded name limit text old new
StepDone Take old new = new ≡ old
StepDone (Store name bytes) old new = Stored name bytes old new
StepDone (Open on) old new = Used (banks_after on) old new
StepDone (Use on) old new = Used (banks_after on) old new
StepDone (UseFor wave) old new = Used (after wave.events wave.banks) old new
StepDone (Put bytes) old new = Sent (λ before after. after ≡ before ++ bytes) old new
    × (new.sink.faults ≡ old.sink.faults)
StepDone (Print on bytes) old new =
    Printed (λ before after. after ≡ before ++ bytes) (banks_after on) old new
    × (new.sink.faults ≡ old.sink.faults)

-- the load of a file failed for this reason
abbrev pub LoadFails : List ℕ → ℕ → List ℕ → Option Refusal → Reason → World → World → Type 0
LoadFails name limit text refusal (CannotRead said) old new = (said ≡ name) × ReadsOnly old new
    × Rose (old.files.load_faults name) (new.files.load_faults name)
LoadFails name limit text refusal (TooLong said) old new = (said ≡ name) × ReadsOnly old new
    × RoseBy (limit + 1) old.files.taken new.files.taken × IsLonger limit old.files name
LoadFails name limit text refusal (Refused reason) old new = (refusal ≡ Some reason)
    × Loaded name limit text old new
LoadFails name limit text refusal NoMemory old new = ReadsOnly old new
LoadFails name limit text refusal _ old new = ⊥

-- the store of a file failed: that file is unspecified, and all else is as it was
pub record Unstored (name : List ℕ) (old new : World) : Type 0 where
  pub others : Known (KeepsOthers name) old.files.holds new.files.holds
  pub counts : NoCountFalls old.files new.files
  pub rose : Rose old.files.store_faults new.files.store_faults
  pub sink : new.sink ≡ old.sink
  pub chip : new.chip ≡ old.chip

-- the chip is as it was, or its last `begin` failed
abbrev pub Unopened : ChipView → ChipView → Type 0
Unopened old new = (new ≡ old) ⊎ NotBegun new

-- the chip failed at its opening: it has not begun, or it is left as by such a use
abbrev pub IsLeftUnopened : ChipUse → ChipView → Type 0
IsLeftUnopened on chip = NotBegun chip ⊎ IsLeftBy on chip.banks

-- the step failed for this reason
abbrev pub Fails : Step → Reason → World → World → Type 0
Fails (Load name limit text refusal) reason old new =
    LoadFails name limit text refusal reason old new
Fails Take reason old new = (reason ≡ NoMemory) × ReadsOnly old new
Fails (Store name bytes) reason old new = (reason ≡ CannotWrite name) × Unstored name old new
Fails (Open on) reason old new =
    ((reason ≡ NoMemory) × UseFailed old new × Unopened old.chip new.chip)
    ⊎ ((reason ≡ ChipFailed) × UseFailed old new × Rose old.chip.faults new.chip.faults
    × IsLeftUnopened on new.chip)
Fails (Use on) reason old new = (reason ≡ ChipFailed) × UseFailed old new
    × Rose old.chip.faults new.chip.faults × IsLeftBy on new.chip.banks
Fails (UseFor wave) reason old new = (reason ≡ ChipFailed) × UseFailed old new
    × Rose old.chip.faults new.chip.faults × StoppedIn wave new.chip.banks
Fails (Put bytes) reason old new = (reason ≡ PutFailed) × Sent (AppendsPart bytes) old new
    × Rose old.sink.faults new.sink.faults
Fails (Print on bytes) reason old new =
    ((reason ≡ PutFailed) × Printed (AppendsPart bytes) (banks_after on) old new
    × Rose old.sink.faults new.sink.faults)
    ⊎ ((reason ≡ ChipFailed) × PrintFailed bytes old new
    × Rose old.chip.faults new.chip.faults × IsLeftBy on new.chip.banks)

-- the step failed, and this is the end that tells why
abbrev pub FailsBy : Step → End → World → World → Type 0
FailsBy step Done old new = ⊥
FailsBy step (Stopped reason) old new = Fails step reason old new

-- a command without further steps is done, and changes nothing more
abbrev pub EndsHere : End → World → World → Type 0
EndsHere Done old new = new ≡ old
EndsHere (Stopped reason) old new = ⊥

-- A command goes through its steps in order: each is done, until all are, or until one fails, which
-- ends it
abbrev pub Goes : List Step → End → World → World → Type 0
Goes [] end old new = EndsHere end old new
Goes (step ∷ steps) end old new = ((mid : World) × (StepDone step old mid × Goes steps end mid new))
    ⊎ FailsBy step end old new
