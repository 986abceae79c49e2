-- A trace file that was accepted.
use Rattle.std.specs.Prelude.{◌≡◌, ℕ, ◌^◌, ◌<◌, ◌≤◌, true, List, length}
use Rattle.std.specs.Prelude.{Result, Ok, Err}
use Rattle.dram_model.specs.declared.geometry.Geometry.{Geometry}
use Rattle.dram_model.specs.Geometry.{is_geometry}
use Rattle.dram_model.specs.Chip.{Event}
use Rattle.dram_model.specs.Chip.Event.{Row, Write}
use Rattle.object_alloc.specs.Bytes.{bits_of_bytes}
use Rattle.object_alloc.specs.Listed.{Named}
use Rattle.trace_model.specs.Spelling.{Head as EventHead, Trace, Commands, Writes}
use Rattle.trace_model.specs.Reading.{TraceFault, events_at}
use Rattle.cmd_trace.specs.Tape.{events_read, ends_at}
use Rattle.cmd_trace.specs.declared.fault.TraceNo.{TraceNo}
use Rattle.cmd_trace.specs.declared.fault.TraceNo.TheVariants as no
use Rattle.cmd_trace.specs.declared.events.Head.{Head}
use Rattle.cmd_trace.specs.declared.events.Head.TheVariants as heads
use Rattle.cmd_trace.specs.declared.events.Found.{Found}
use Rattle.cmd_trace.specs.declared.events.Found.TheVariants as found

-- why no trace was made of a file: its first fault, or out of memory
abbrev pub IsFault : {Y : Type 0} → TraceNo → Result Y TraceFault → Type 0
IsFault (no.Fault f) read = read ≡ Err f
IsFault no.NoMemory read = Unit {0}

-- What a function returned, seen by view, is what reading gives, unless memory ran out.
abbrev pub Answers : {X Y : Type 0} → (X → Y) → Result X TraceNo → Result Y TraceFault → Type 0
Answers view (Ok x) read = read ≡ Ok (view x)
Answers view (Err e) read = IsFault e read

-- an event's eight bytes, as they were read
abbrev pub head_of : Head → EventHead
head_of (heads.Row bank command) = Commands bank command
head_of (heads.Write bank row) = Writes bank row

-- an event, as it was read
abbrev pub event_of : Found → Event
event_of (found.Row bank command) = Row bank command
event_of (found.Write bank row bytes) = Write bank row (bits_of_bytes bytes.now)

-- a write that was read has a row of so many bytes, and a row command has none
abbrev pub IsRowOf : ℕ → Found → Type 0
IsRowOf size (found.Row bank command) = Unit {0}
IsRowOf size (found.Write bank row bytes) = length bytes.now ≡ size

-- the trace of a file, by the places of its parts
abbrev pub trace_of : Geometry → List Named → (count start : ℕ) → List ℕ → Trace
trace_of g table count start bytes = record {
  geometry = g;
  table = table;
  events = events_read (events_at count g start bytes);
}

-- so many events stand at a place, and end with the file
pub record IsOpen (g : Geometry) (count start : ℕ) (bytes : List ℕ) : Type 0 where
  pub shape : is_geometry g ≡ true
  pub small : length bytes < 2 ^ 32
  pub place : start ≤ length bytes
  pub whole : ends_at (length bytes) (events_at count g start bytes) ≡ true
