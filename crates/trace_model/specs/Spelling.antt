-- The one spelling of events and of a trace file.
use Rattle.std.specs.Prelude.{◌≡◌, ℕ, ◌*◌, ◌<◌, true, List, [], ◌∷◌, ◌++◌, flat_map, length, codes}
use Rattle.std.specs.Prelude.{◌^◌, All}
use Rattle.std.specs.Int.{to_le_bytes, w16, w32}
use Rattle.std.specs.List.{AllByRecursion}
use Rattle.text_lex.specs.Spelled.{fits_name}
use Rattle.dram_model.specs.declared.address.Addr.{Addr}
use Rattle.dram_model.specs.declared.address.Addr.TheVariants as addr
use Rattle.dram_model.specs.declared.address.Command.{Command}
use Rattle.dram_model.specs.declared.address.Command.TheVariants.{Ap, Aap}
use Rattle.dram_model.specs.declared.geometry.Geometry.{Geometry}
use Rattle.dram_model.specs.Geometry.{is_geometry}
use Rattle.dram_model.specs.Column.{is_legal}
use Rattle.dram_model.specs.Elements.{column_count}
use Rattle.dram_model.specs.Chip.{Event}
use Rattle.dram_model.specs.Chip.Event.{Row, Write}
use Rattle.object_alloc.specs.Bytes.{bytes_of_bits}
use Rattle.object_alloc.specs.Listed.{Named, IsTable, limit_of}
use Rattle.object_alloc.specs.Spelling.{geometry_bytes, table_bytes, IsObject}

-- an address is a group, 0 for B, 1 for C and 2 for D, and a number in it
abbrev pub group_of : Addr → ℕ
group_of (addr.B k) = 0
group_of (addr.C k) = 1
group_of (addr.D k) = 2

-- the number of an address in its group
abbrev pub index_of : Addr → ℕ
index_of (addr.B k) = k
index_of (addr.C k) = k
index_of (addr.D k) = k

-- an address in three bytes
abbrev pub address_bytes : Addr → List ℕ
address_bytes x = group_of x ∷ to_le_bytes w16 (index_of x)

-- what stands where there is no second address
abbrev pub no_address : List ℕ
no_address = 0 ∷ 0 ∷ 0 ∷ []

-- an event without the bits of a row that it writes
pub data Head : Type 0 where
  Commands : (bank : ℕ) → Command → Head
  Writes : (bank row : ℕ) → Head

-- its kind, 0 for AAP, 1 for AP and 2 for a write; its bank; and its addresses
abbrev pub event_head_bytes : Head → List ℕ
event_head_bytes (Commands bank (Aap x y)) = 0 ∷ bank ∷ address_bytes x ++ address_bytes y
event_head_bytes (Commands bank (Ap x)) = 1 ∷ bank ∷ address_bytes x ++ no_address
event_head_bytes (Writes bank row) = 2 ∷ bank ∷ address_bytes (addr.D row) ++ no_address

-- eight bytes, and for a write the bytes of its row
abbrev pub event_bytes : Geometry → Event → List ℕ
event_bytes g (Row bank command) = event_head_bytes (Commands bank command)
event_bytes g (Write bank row bits) = event_head_bytes (Writes bank row)
    ++ bytes_of_bits (8 * g.words) bits

-- the events of a trace file, one after another
abbrev pub events_bytes : Geometry → List Event → List ℕ
events_bytes g events = flat_map (event_bytes g) events

-- SDMT, and the version, which is 1
abbrev pub trace_opening : List ℕ
trace_opening = codes "SDMT" ++ to_le_bytes w16 1

-- all that stands before the number of events: the geometry and the table as in an image file
abbrev pub trace_head : Geometry → List Named → List ℕ
trace_head g table = trace_opening ++ (geometry_bytes g ++ table_bytes table)

-- the file of a trace
unfoldable pub trace_bytes : Geometry → List Named → List Event → List ℕ
trace_bytes g table events = trace_head g table
    ++ (to_le_bytes w32 (length events) ++ events_bytes g events)

-- what a trace file holds
pub record Trace : Type 0 where
  pub geometry : Geometry
  pub table : List Named
  pub events : List Event

-- the file of a trace, by its three parts
abbrev pub bytes_of_trace : Trace → List ℕ
bytes_of_trace t = trace_bytes t.geometry t.table t.events

-- an event that a chip of this geometry can do
abbrev pub IsEvent : Geometry → Event → Type 0
IsEvent g (Row bank command) = (bank < g.banks) × (is_legal g.rows command ≡ true)
IsEvent g (Write bank row bits) = (bank < g.banks) × (row < g.rows)
    × (length bits ≡ column_count g)

-- a table as a file may have it
pub record IsWritten (g : Geometry) (table : List Named) : Type 0 where
  pub listed : IsTable (limit_of g) table
  pub names : All (λ named. fits_name named.0 ≡ true) table
  pub objects : All (λ named. IsObject g named.1) table

-- a trace: a geometry, a table, and fewer than 2 ^ 32 events, each of which a chip can do
pub record IsTrace (t : Trace) : Type 0 where
  pub geometry : is_geometry t.geometry ≡ true
  pub written : IsWritten t.geometry t.table
  pub few : length t.events < 2 ^ 32
  pub events : AllByRecursion (IsEvent t.geometry) t.events
