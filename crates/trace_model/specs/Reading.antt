-- Reading a trace file field by field: what it holds, or the first field that is not whole or
-- breaks its rule.
use Rattle.std.specs.Prelude.{ℕ, zero, suc, true, ◌+◌, ◌*◌, Bool, nat_lt, ◌==◌, List, [], ◌∷◌}
use Rattle.std.specs.Prelude.{length}
use Rattle.std.specs.Prelude.{take, drop, slice_index, Option, Some, None, Result, Ok, Err, codes}
use Rattle.std.specs.Prelude.{if◌then◌else◌}
use Rattle.std.specs.Int.{w16, w32, from_le_bytes}
use Rattle.std.specs.List.{list_all}
use Rattle.std.specs.Str.{bytes_eq}
use Rattle.dram_model.specs.declared.address.Addr.{Addr}
use Rattle.dram_model.specs.declared.address.Addr.TheVariants as addr
use Rattle.dram_model.specs.declared.address.Command.TheVariants.{Ap, Aap}
use Rattle.dram_model.specs.declared.geometry.Geometry.{Geometry}
use Rattle.dram_model.specs.Column.{is_legal}
use Rattle.dram_model.specs.Chip.{Event}
use Rattle.dram_model.specs.Chip.Event.{Row, Write}
use Rattle.object_alloc.specs.declared.fault.ImageKind.{ImageKind}
use Rattle.object_alloc.specs.declared.fault.ImageKind.TheVariants as image
use Rattle.object_alloc.specs.Bytes.{bits_of_bytes}
use Rattle.object_alloc.specs.Listed.{Named}
use Rattle.object_alloc.specs.Reading.{ImageFault, geometry_at, table_at, rows_start}
use Rattle.file_fields.specs.declared.faults.FileFault.{FileFault}
use Rattle.file_fields.specs.Fields as fields
use Rattle.file_fields.specs.Fields.{◌>>=◌, rule, fault_at}
use Rattle.trace_model.specs.declared.TraceKind.{TraceKind}
use Rattle.trace_model.specs.declared.TraceKind.TheVariants as kinds
use Rattle.trace_model.specs.Spelling.{Head, Commands, Writes, Trace}

-- where a trace file breaks a rule, and which
abbrev pub TraceFault : Type 0
TraceFault = FileFault TraceKind

-- the kinds of an image's geometry and table are a trace's
abbrev pub trace_kind : ImageKind → TraceKind
trace_kind image.Short = kinds.Short
trace_kind image.Magic = kinds.Magic
trace_kind image.Version = kinds.Version
trace_kind image.Geometry = kinds.Geometry
trace_kind image.Object = kinds.Object
trace_kind image.Overlap = kinds.Overlap
trace_kind image.Rest = kinds.Rest

-- a fault of the geometry or the table, which stand in a trace file as in an image
abbrev pub as_trace_fault : ImageFault → TraceFault
as_trace_fault f = fault_at f.at (trace_kind f.kind)

-- what reading a part of an image gives, as a part of a trace file
abbrev pub lifted : {A : Type 0} → Result A ImageFault → Result A TraceFault
lifted (Ok x) = Ok x
lifted (Err f) = Err (as_trace_fault f)

-- a value where a condition on its bytes holds, and else none
abbrev pub where_so : {A : Type 0} → Bool → A → Option A
where_so holds x = if holds then Some x else None

-- the address of a group and a number
abbrev pub address_of : ℕ → ℕ → ℕ → Option Addr
address_of rows zero k = where_so (nat_lt k 16) (addr.B k)
address_of rows (suc zero) k = where_so (nat_lt k 2) (addr.C k)
address_of rows (suc (suc zero)) k = where_so (nat_lt k rows) (addr.D k)
address_of rows (suc (suc (suc group))) k = None

-- an event's kind, bank and addresses; blank where nothing stands for the second
abbrev pub of_kind : ℕ → ℕ → Option Addr → Option Addr → Bool → Option Head
of_kind zero bank (Some x) (Some y) blank = Some (Commands bank (Aap x y))
of_kind (suc zero) bank (Some x) y blank = where_so blank (Commands bank (Ap x))
of_kind (suc (suc zero)) bank (Some (addr.D row)) y blank = where_so blank (Writes bank row)
of_kind kind bank x y blank = None

-- the address in three bytes of a field
abbrev pub address_at : ℕ → ℕ → List ℕ → Option Addr
address_at rows place field =
    address_of rows (slice_index field place) (from_le_bytes w16 (take 2 (drop (place + 1) field)))

-- an event that eight bytes spell
abbrev pub head_in : Geometry → List ℕ → Option Head
head_in g field =
    if nat_lt (slice_index field 1) g.banks
    then of_kind (slice_index field 0) (slice_index field 1) (address_at g.rows 2 field)
    (address_at g.rows 5 field) (list_all (λ b. b == 0) (drop 5 field))
    else None

-- what eight bytes spell, or that they spell no event
abbrev pub needed : {A : Type 0} → Option A → ℕ → TraceKind → Result A TraceFault
needed (Some x) at kind = Ok x
needed None at kind = Err (fault_at at kind)

-- a row command of an event is legal on a bank of the trace's geometry
abbrev pub is_legal_head : Geometry → Head → Bool
is_legal_head g (Commands bank command) = is_legal g.rows command
is_legal_head g (Writes bank row) = true

-- so many bytes from a place on. A file that ends before is Short at its length
abbrev pub bytes_at : ℕ → ℕ → List ℕ → Result (List ℕ) TraceFault
bytes_at = fields.bytes_at kinds.Short

-- the eight bytes at a place
unfoldable pub head_at : Geometry → ℕ → List ℕ → Result Head TraceFault
head_at g at bytes = do
  field ← bytes_at 8 at bytes
  head ← needed (head_in g field) at kinds.Event
  legal ← rule (is_legal_head g head) at kinds.Legal
  Ok head

-- the event of a head at a place, with the row after a write, and where the next begins
abbrev pub with_row : Geometry → Head → ℕ → List ℕ → Result (Event × ℕ) TraceFault
with_row g (Commands bank command) at bytes = Ok (Row bank command, at + 8)
with_row g (Writes bank row) at bytes = bytes_at (8 * g.words) (at + 8) bytes >>= λ field.
    Ok (Write bank row (bits_of_bytes field), at + 8 + 8 * g.words)

-- the event at a place, and where the next begins; or its first fault
unfoldable pub event_at : Geometry → ℕ → List ℕ → Result (Event × ℕ) TraceFault
event_at g at bytes = do
  head ← head_at g at bytes
  with_row g head at bytes

-- so many events, and where they end
unfoldable pub events_at : ℕ → Geometry → ℕ → List ℕ → Result (List Event × ℕ) TraceFault
events_at zero g at bytes = Ok ([], at)
events_at (suc n) g at bytes = do
  event ← event_at g at bytes
  events ← events_at n g event.1 bytes
  Ok (event.0 ∷ events.0, events.1)

-- the file begins as a trace file of the version that there is
unfoldable pub opening_in : List ℕ → Result (Unit {0}) TraceFault
opening_in bytes = do
  magic ← bytes_at 4 0 bytes
  same ← rule (bytes_eq magic (codes "SDMT")) 0 kinds.Magic
  version ← fields.field_at kinds.Short w16 (λ version. version == 1) kinds.Version 4 bytes
  Ok tt

-- where the events begin
abbrev pub events_start : List Named → ℕ
events_start table = rows_start table + 4

-- what a file holds, or its first fault
unfoldable pub trace_in : List ℕ → Result Trace TraceFault
trace_in bytes = do
  opening ← opening_in bytes
  g ← lifted (geometry_at 6 bytes)
  table ← lifted (table_at g 12 bytes)
  count ← fields.number_at kinds.Short w32 (rows_start table) bytes
  events ← events_at count g (events_start table) bytes
  ended ← rule (length bytes == events.1) events.1 kinds.Rest
  Ok (record { geometry = g; table = table; events = events.0 })
