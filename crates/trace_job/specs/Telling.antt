-- What a recorder tells of the events that it saw.
use Rattle.std.specs.Prelude.{◌≡◌, ℕ, nat_le, Bool, true, List, Some}
use Rattle.std.specs.List.{AllByRecursion}
use Rattle.dram_model.specs.declared.geometry.Geometry.{Geometry}
use Rattle.dram_model.specs.Chip.{Event, Grew}
use Rattle.dram_model.specs.View.{ChipView, HasBegun}
use Rattle.object_alloc.specs.Listed.{Named}
use Rattle.trace_model.specs.Recorder.{events_size, known}
use Rattle.trace_model.specs.Spelling.{IsEvent, trace_bytes}
use Rattle.cmd_trace.specs.declared.sizes.TheConstants.{EVENTS_BYTES_MAX}
use Rattle.cmd_trace.specs.Tape.{NotesView, empty_log, log_on, recorded}

-- a recorder keeps all of these events
abbrev pub all_fit : Geometry → List Event → Bool
all_fit g events = nat_le (events_size g events) EVENTS_BYTES_MAX

-- The recorder of a chip saw just these events since its mark, each of which a chip can do
pub record Saw (chip : ChipView) (tape : NotesView) (events : List Event) : Type 0 where
  pub begun : HasBegun (recorded chip tape)
  pub legal : AllByRecursion (IsEvent chip.geometry) events
  pub grew : Grew (Some empty_log) (recorded chip tape).log events

-- It tells them where they take no more than its room, and else tells nothing
abbrev pub TellsWhatFits : Type 0
TellsWhatFits = (chip : ChipView) (tape : NotesView) (events : List Event) → Saw chip tape events
    → log_on chip.geometry tape ≡ known chip.geometry EVENTS_BYTES_MAX events

-- the file is spelled where all events were kept
pub record Spelled (g : Geometry) (table : List Named) (events : List Event) (file : List ℕ)
    (all : Bool) : Type 0 where
  pub all_is : all ≡ all_fit g events
  pub file_is : all ≡ true → file ≡ trace_bytes g table events
