-- Objects on a chip, and by how much its counters rise.
use Rattle.std.specs.Prelude.{◌≡◌, ℕ, ◌+◌, ◌*◌, ◌<◌, ◌≤◌, List, [], map, All, true}
use Rattle.std.specs.List.{range_with_len}
use Rattle.bit_rows.specs.Bits.{bit_at, bit_number}
use Rattle.bit_rows.specs.declared.TheConstants.{WIDTH_MAX}
use Rattle.dram_model.specs.declared.geometry.Geometry.{Geometry}
use Rattle.dram_model.specs.Geometry.{is_geometry}
use Rattle.dram_model.specs.declared.address.Command.TheVariants.{Aap}
use Rattle.dram_model.specs.declared.address.Addr.TheVariants as addr
use Rattle.dram_model.specs.declared.dram.Counters.{Counters}
use Rattle.dram_model.specs.Chip.{Event}
use Rattle.dram_model.specs.Elements.{column_count}
use Rattle.dram_model.specs.Chip.Event.{Row}
use Rattle.object_alloc.specs.declared.table.Object.{Object}
use Rattle.object_alloc.specs.Listed.{Listing, Named, IsTable, limit_of}
use Rattle.object_alloc.specs.Spelling.{IsObject}
use Rattle.bbop_isa.specs.Forms.{Instruction}
use Rattle.machine_model.specs.Routines.{Routines}
use Rattle.machine_model.specs.Refusals.{refusal}
use Rattle.machine_model.specs.Steps.{own_events, if_done}

-- the table's objects lie on a chip of this shape
pub record LiesOn (g : Geometry) (table : Listing) : Type 0 where
  pub geometry : is_geometry g ≡ true
  pub limit : table.limit ≡ limit_of g
  pub listed : IsTable (limit_of g) table.pairs
  pub objects : All (λ named. IsObject g named.1) table.pairs

-- the rows of an object, or of bits of one, as they may be on a chip of this shape
pub record FitsOn (g : Geometry) (o : Object) : Type 0 where
  pub narrow : o.width ≤ WIDTH_MAX
  pub some : 0 < o.count
  pub fits : o.count ≤ column_count g * g.banks

-- the events of an instruction that no other stands beside: none where it is refused
abbrev pub events_alone : Geometry → Routines → List Named → Instruction → List Event
events_alone g operations table instr =
    if_done (refusal g operations table instr) (own_events g table instr) []

-- the rows of an object in one bank take the bits of a value, each from the row of zeros or ones
abbrev pub filled_in : Object → ℕ → ℕ → List Event
filled_in o value bank = map (λ k.
    Row bank (Aap (addr.C (bit_number (bit_at value k))) (addr.D (o.base + k))))
    (range_with_len 0 o.width)

-- no counter rose by more than n
pub record RisesAtMost (n : ℕ) (old new : Counters) : Type 0 where
  pub aap : new.aap ≤ old.aap + n
  pub ap : new.ap ≤ old.ap + n
  pub writes : new.writes ≤ old.writes + n
  pub reads : new.reads ≤ old.reads + n
