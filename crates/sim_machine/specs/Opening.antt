-- A chip that was opened: the writes of an image's rows.
use Rattle.std.specs.Prelude.{◌≡◌, ◌⊎◌, ℕ, List, [], map, flat_map}
use Rattle.std.specs.List.{range_with_len}
use Rattle.dram_model.specs.declared.geometry.Geometry.{Geometry}
use Rattle.dram_model.specs.Chip.{Event, LogIs, after, all_counted, blank_banks}
use Rattle.dram_model.specs.Chip.Event.{Write}
use Rattle.transpose_unit.specs.Stopped.{StoppedWithin}
use Rattle.dram_model.specs.View.{ChipView, HasBegun, NotBegun, no_counts}
use Rattle.uprog_code.specs.Shape.{Microprogram}
use Rattle.object_alloc.specs.Listed.{Named}
use Rattle.object_alloc.specs.Spelling.{rows_in}
use Rattle.wave_model.specs.Schedule.{Ahead}
use Rattle.sim_machine.specs.declared.machine.Machine.{Machine}

-- the rows of one bank, upwards
abbrev pub bank_writes : Geometry → List ℕ → ℕ → List Event
bank_writes g rows bank = map (λ row. Write bank row (rows_in g rows bank row))
    (range_with_len 0 g.rows)

-- bank by bank
abbrev pub all_writes : Geometry → List ℕ → List Event
all_writes g rows = flat_map (bank_writes g rows) (range_with_len 0 g.banks)

-- a machine as it is opened, with this program and these objects
abbrev pub machine_on : Geometry → List Microprogram → List Named → Machine
machine_on g programs table = record {
  geometry = g;
  programs = programs;
  table = table;
  turn = Ahead;
  file = [];
}

-- the chip has this shape, and since it began exactly the writes of these rows happened
pub record Opened (g : Geometry) (rows : List ℕ) (chip : ChipView) : Type 0 where
  pub begun : HasBegun chip
  pub geometry : chip.geometry ≡ g
  pub banks : chip.banks ≡ after (all_writes g rows) (blank_banks g)
  pub counters : chip.counters ≡ all_counted (all_writes g rows) no_counts
  pub log : LogIs (all_writes g rows) chip.log

-- a chip that failed at its opening: it has not begun, or one of the writes failed
abbrev pub IsLeftUnopened : Geometry → List ℕ → ChipView → Type 0
IsLeftUnopened g rows chip =
    NotBegun chip ⊎ StoppedWithin 0 (all_writes g rows) (blank_banks g) chip.banks
