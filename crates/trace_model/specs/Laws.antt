-- Laws of traces.
use Rattle.std.specs.Prelude.{◌≡◌, ℕ, ◌+◌, ◌*◌, ◌^◌, ◌<◌, ◌≤◌, true, List, [], ◌∷◌, ◌++◌}
use Rattle.std.specs.Prelude.{length, Ok}
use Rattle.std.specs.List.{AllByRecursion}
use Rattle.file_fields.specs.Fields.{IsBytes}
use Rattle.dram_model.specs.declared.geometry.Geometry.{Geometry}
use Rattle.dram_model.specs.Geometry.{is_geometry}
use Rattle.dram_model.specs.declared.dram.Counters.{Counters}
use Rattle.dram_model.specs.Chip.{Event, all_counted}
use Rattle.object_alloc.specs.Listed.{Named}
use Rattle.object_alloc.specs.Spelling.{IsImage}
use Rattle.uprog_code.specs.Programs.{IsProgram}
use Rattle.bbop_isa.specs.Forms.{Instruction}
use Rattle.bbop_isa.specs.Laws.{IsRight}
use Rattle.bbop_isa.specs.Script.{script_of}
use Rattle.wave_model.specs.Schedule.{Turn}
use Rattle.machine_model.specs.Agrees.{IsPlain}
use Rattle.machine_model.specs.Laws.{TableFits}
use Rattle.machine_model.specs.Opened.{Image, opened}
use Rattle.machine_model.specs.Routines.{Program, Routines, routines_in}
use Rattle.machine_model.specs.Pieces.{pieces, events_of_pieces}
use Rattle.machine_model.specs.Script.{banks_at_end, table_at_end}
use Rattle.trace_model.specs.Spelling.{Trace, bytes_of_trace, events_bytes, IsEvent, IsTrace}
use Rattle.trace_model.specs.Spelling.{IsWritten}
use Rattle.trace_model.specs.Reading.{trace_in}
use Rattle.trace_model.specs.Recorder.{events_size, kept_of, kept_more}
use Rattle.trace_model.specs.Replay.{replayed, script_trace}

-- Bytes are accepted exactly where they are the spelling of a trace
pub record FilesAreExact : Type 0 where
  pub spelled : (bytes : List ℕ) (t : Trace) → IsBytes bytes → trace_in bytes ≡ Ok t
      → IsTrace t × (bytes ≡ bytes_of_trace t)
  pub read : (t : Trace) → IsTrace t → trace_in (bytes_of_trace t) ≡ Ok t

-- What a recorder keeps in its room
pub record KeepsWhatFits : Type 0 where
  -- while all events fit, what is kept is their spelling
  pub kept : (g : Geometry) (room : ℕ) (events : List Event) → events_size g events ≤ room
      → (kept_of g room events).bytes ≡ events_bytes g events
  -- what is kept never takes more than the room
  pub within : (g : Geometry) (room : ℕ) (events : List Event)
      → length (kept_of g room events).bytes ≤ room
  pub size : (g : Geometry) (room : ℕ) (events : List Event)
      → (kept_of g room events).size ≡ events_size g events
  -- one more event is one more step of the recorder
  pub more : (g : Geometry) (room : ℕ) (events : List Event) (event : Event)
      → kept_of g room (events ++ event ∷ []) ≡ kept_more g room (kept_of g room events) event
  -- the size by what the counters rise
  pub counted : (g : Geometry) (events : List Event) (k : Counters) →
      let now = all_counted events k in
      events_size g events + 8 * (k.aap + k.ap + k.writes) + 8 * g.words * k.writes
      ≡ 8 * (now.aap + now.ap + now.writes) + 8 * g.words * now.writes

-- Each event of a script is one that a chip can do, whatever accepted program its bbops run and
-- under every order in force
abbrev pub EventsAreLegal : Type 0
EventsAreLegal =
    (g : Geometry) (p : Program) (turn : Turn) (table : List Named) (script : List Instruction)
    → is_geometry g ≡ true → IsProgram p → TableFits g table → AllByRecursion IsPlain script
    → AllByRecursion (IsEvent g)
    (events_of_pieces g (routines_in p) turn table (pieces script))

-- A file may have the table after a script where it may have that before it
abbrev pub TableIsWritten : Type 0
TableIsWritten =
    (g : Geometry) (operations : Routines) (table : List Named) (script : List Instruction)
    → AllByRecursion IsRight script → IsWritten g table
    → IsWritten g (table_at_end g operations table script)

-- A script's events on an image's rows leave the script's banks
abbrev pub ReplayIsScript : Type 0
ReplayIsScript =
    (image : Image) (p : Program) (script : List Instruction)
    → IsImage image.geometry image.table image.rows
    → replayed (script_trace p image script).events image
    ≡ banks_at_end image.geometry (routines_in p) image.table (opened image) script

-- So the trace of an accepted script on an accepted image is a trace, where there are not too many
-- events
abbrev pub ScriptIsTrace : Type 0
ScriptIsTrace =
    (image : Image) (p : Program) (text : List ℕ) (script : List Instruction) → IsProgram p
    → script_of text ≡ Ok script → IsImage image.geometry image.table image.rows
    → length (script_trace p image script).events < 2 ^ 32
    → IsTrace (script_trace p image script)

-- there are not, where they fit in a room below 2 ^ 32 bytes
abbrev pub FittingAreFew : Type 0
FittingAreFew = (g : Geometry) (events : List Event) → 8 * length events ≤ events_size g events
