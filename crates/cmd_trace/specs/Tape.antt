-- What a recorder keeps, and the log that it tells.
use Rattle.std.specs.Prelude.{ℕ, ◌+◌, ◌*◌, ◌-◌, ◌^◌, min, ◌==◌, nat_le, Bool, true, false, ◌&&◌}
use Rattle.std.specs.Prelude.{if◌then◌else◌, List, [], ◌++◌, length, take, drop, Option, Some, None}
use Rattle.std.specs.Prelude.{Result, Ok, Err}
use Rattle.std.specs.Str.{bytes_eq}
use Rattle.dram_model.specs.declared.dram.Counters.{Counters}
use Rattle.dram_model.specs.declared.geometry.Geometry.{Geometry}
use Rattle.dram_model.specs.Geometry.{is_geometry}
use Rattle.dram_model.specs.Chip.{Event, Log}
use Rattle.dram_model.specs.View.{ChipView}
use Rattle.trace_model.specs.Spelling.{events_bytes}
use Rattle.trace_model.specs.Reading.{TraceFault, events_at}
use Rattle.cmd_trace.specs.declared.sizes.TheConstants.{EVENTS_BYTES_MAX, HEAD_BYTES_MAX}
use Rattle.cmd_trace.specs.declared.sizes.TheConstants.{TRACE_BYTES_MAX}

-- what was recorded: whether all events since the mark were kept, how many were, the counters at
-- the mark, and the bytes: room for the head of a file, and then the events. The file that was
-- spelled last begins at a place of that room
pub record NotesView : Type 0 where
  pub known : Bool
  pub count : ℕ
  pub since : Counters
  pub start : ℕ
  pub bytes : List ℕ

-- the events that were kept, as they are spelled
abbrev pub kept_in : NotesView → List ℕ
kept_in tape = drop HEAD_BYTES_MAX tape.bytes

-- the file that was spelled last
abbrev pub file_on : NotesView → List ℕ
file_on tape = drop tape.start tape.bytes

-- a tape after an event of these bytes: it is kept where it and all before it fit in the room
abbrev pub kept_on : NotesView → List ℕ → NotesView
kept_on tape bytes =
    if tape.known && nat_le (length tape.bytes + length bytes) TRACE_BYTES_MAX
    then record tape { count = tape.count + 1; bytes = tape.bytes ++ bytes }
    else record tape { known = false }

-- nothing is kept yet
abbrev pub marked : Counters → NotesView → NotesView
marked since tape = record tape {
  known = true;
  count = 0;
  since = since;
  bytes = take HEAD_BYTES_MAX tape.bytes;
}

-- the events that were read
abbrev pub events_read : Result (List Event × ℕ) TraceFault → List Event
events_read (Ok events) = events.0
events_read (Err f) = []

-- the events that were read end where the bytes end
abbrev pub ends_at : ℕ → Result (List Event × ℕ) TraceFault → Bool
ends_at size (Ok events) = events.1 == size
ends_at size (Err f) = false

-- the events that are spelled after the room for the head
abbrev pub events_on : Geometry → NotesView → List Event
events_on g tape = events_read (events_at tape.count g HEAD_BYTES_MAX tape.bytes)

-- where all events were kept, what stands there is their spelling
abbrev pub is_whole : Geometry → NotesView → Bool
is_whole g tape = if tape.known
    then is_geometry g && nat_le (length tape.bytes) TRACE_BYTES_MAX
    && ends_at (length tape.bytes) (events_at tape.count g HEAD_BYTES_MAX tape.bytes)
    && bytes_eq (kept_in tape) (events_bytes g (events_on g tape))
    else true

-- the events since the mark, where all were kept
abbrev pub log_on : Geometry → NotesView → Option (List Event)
log_on g tape = if tape.known then Some (events_on g tape) else None

-- a log without events, with the room that a recorder has, in bits
abbrev pub empty_log : Log
empty_log = record { room = 8 * EVENTS_BYTES_MAX; events = [] }

-- the log that is known: these events, in this room
abbrev pub log_shown : Geometry → NotesView → Option Log
log_shown g tape = if tape.known
    then Some (record { room = 8 * EVENTS_BYTES_MAX; events = events_on g tape }) else None

-- a recorder shows what its chip shows, but for the log. It has begun where the chip has and what
-- was kept is whole, as each call leaves it
abbrev pub recorded : ChipView → NotesView → ChipView
recorded chip tape = record chip {
  begun = chip.begun && is_whole chip.geometry tape;
  log = log_shown chip.geometry tape;
}

-- how many bytes all events take by what the counters rose: 8 for each command and write, and a row
-- for each write; a number of 2 ^ 64 - 1 stands for all above
abbrev pub size_since : ℕ → Counters → Counters → ℕ
size_since words since now =
    let writes = now.writes - since.writes in
    min (8 * ((now.aap - since.aap) + (now.ap - since.ap) + writes) + 8 * words * writes)
    (2 ^ 64 - 1)
