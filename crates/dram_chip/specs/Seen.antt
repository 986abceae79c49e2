-- A chip as its callers see it.
use Rattle.std.specs.Prelude.{None}
use Rattle.dram_chip.specs.declared.chip.Chip.{Chip}
use Rattle.dram_model.specs.View.{ChipView}
use Rattle.dram_chip.specs.Begun.{has_begun}
use Rattle.dram_chip.specs.ChipRows.{banks_in}

-- it tells no log, and never fails
abbrev pub chip_view : Chip → ChipView
chip_view chip = record {
  begun = has_begun chip;
  geometry = chip.geometry;
  banks = banks_in chip.banks.items;
  counters = chip.counters;
  faults = 0;
  log = None;
}
