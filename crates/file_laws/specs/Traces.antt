-- Where a refused trace file is at fault.
use Rattle.std.specs.Prelude.{ℕ, ◌+◌, ◌*◌}
use Rattle.trace_model.specs.declared.TraceKind.{TraceKind}
use Rattle.trace_model.specs.declared.TraceKind.TheVariants as kinds
use Rattle.trace_model.specs.Reading.{trace_in}
use Rattle.file_laws.specs.Stands.{Ends, FaultsStand}
use Rattle.file_laws.specs.Images as images

-- the fields of a trace file but the rows that are written, in bytes: those of an image file, with
-- "SDMT" for its magic; the number of events, and after it eight bytes for each event. A row that
-- is written has eight bytes a word, so each event begins a multiple of eight bytes after the
-- number of events
pub data IsField : ℕ → ℕ → Type 0 where
  OfImage : {from to : ℕ} → images.IsField from to → IsField from to
  Events : (objects : ℕ) → IsField (14 + 24 * objects) (18 + 24 * objects)
  Event : (objects k : ℕ) → IsField (18 + 24 * objects + 8 * k) (18 + 24 * objects + 8 * k + 8)

-- the kinds that no field breaks
abbrev pub ends : Ends TraceKind
ends = record { short = kinds.Short; rest = kinds.Rest }

-- each fault that reading a trace file tells is one of the file
abbrev pub TraceFaultsStand : Type 0
TraceFaultsStand = FaultsStand ends IsField trace_in
