-- What a recorder keeps of the events that it sees.
use Rattle.std.specs.Prelude.{ℕ, ◌+◌, ◌*◌, nat_le, List, [], ◌∷◌, ◌++◌, Option, Some, None}
use Rattle.std.specs.Prelude.{if◌then◌else◌}
use Rattle.dram_model.specs.declared.geometry.Geometry.{Geometry}
use Rattle.dram_model.specs.Chip.{Event}
use Rattle.dram_model.specs.Chip.Event.{Row, Write}
use Rattle.trace_model.specs.Spelling.{event_bytes}

-- how many bytes an event takes in a trace file
abbrev pub event_size : Geometry → Event → ℕ
event_size g (Row bank command) = 8
event_size g (Write bank row bits) = 8 + 8 * g.words

-- how many bytes all events take
abbrev pub events_size : Geometry → List Event → ℕ
events_size g [] = 0
events_size g (event ∷ events) = event_size g event + events_size g events

-- the bytes that are kept, and the size of all events
pub record Kept : Type 0 where
  pub bytes : List ℕ
  pub size : ℕ

-- a recorder that has just begun
abbrev pub nothing_kept : Kept
nothing_kept = record { bytes = []; size = 0 }

-- one event more: it is kept where it and all before it fit in the room
abbrev pub kept_more : Geometry → ℕ → Kept → Event → Kept
kept_more g room k event = record {
  bytes = if nat_le (k.size + event_size g event) room
      then k.bytes ++ event_bytes g event else k.bytes;
  size = k.size + event_size g event;
}

-- what is kept after these events, where so much was kept before
abbrev pub kept_from : Geometry → ℕ → Kept → List Event → Kept
kept_from g room k [] = k
kept_from g room k (event ∷ events) = kept_from g room (kept_more g room k event) events

-- what is kept of these events
abbrev pub kept_of : Geometry → ℕ → List Event → Kept
kept_of g room events = kept_from g room nothing_kept events

-- the log that is known: all of them, while all have fitted
abbrev pub known : Geometry → ℕ → List Event → Option (List Event)
known g room events = if nat_le (events_size g events) room then Some events else None
