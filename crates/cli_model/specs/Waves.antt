-- Waves and other uses of the banks of a chip, and what stands where the chip fails in one.
use Rattle.std.specs.Prelude.{◌≡◌, ◌≢◌, ℕ, ◌<◌, List, map, take, slice_get, Some}
use Rattle.dram_model.specs.declared.address.Command.{Command}
use Rattle.dram_model.specs.Column.{run}
use Rattle.dram_model.specs.Chip.{Banks, Event, after, SameBut}
use Rattle.dram_model.specs.Chip.Event.{Row}
use Rattle.transpose_unit.specs.Stopped.{StoppedWithin}

-- a wave: how many banks the chip has and what they hold before it, its commands in order, and
-- those of each bank
pub record ChipWave : Type 0 where
  pub count : ℕ
  pub banks : Banks
  pub events : List Event
  pub queue : ℕ → List Command

-- The chip failed at one of its commands: those before it are done, its bank is unspecified, and
-- each other bank stands where the first commands of its own queue leave it
pub record StoppedIn (wave : ChipWave) (left : Banks) : Type 0 where
  pub done : ℕ
  pub bank : ℕ
  pub command : Command
  pub failed : slice_get wave.events done ≡ Some (Row bank command)
  pub others : SameBut bank (after (take done wave.events) wave.banks) left
  pub alone : (b : ℕ) → b ≢ bank → b < wave.count
      → (k : ℕ) × (left b ≡ map (run (take k (wave.queue b))) (wave.banks b))

-- a use of a chip by other calls: what its banks hold before it, its events in order, and in how
-- many banks rows are read after them
pub record ChipUse : Type 0 where
  pub banks : Banks
  pub events : List Event
  pub reads : ℕ

-- these events on these banks
abbrev pub doing : Banks → List Event → ChipUse
doing banks events = record { banks = banks; events = events; reads = 0 }

-- and rows of the first so many banks are read after them
abbrev pub and_reading : ℕ → ChipUse → ChipUse
and_reading reads on = record on { reads = reads }

-- the banks after it
abbrev pub banks_after : ChipUse → Banks
banks_after on = after on.events on.banks

-- the chip failed in it
abbrev pub IsLeftBy : ChipUse → Banks → Type 0
IsLeftBy on left = StoppedWithin on.reads on.events on.banks left
