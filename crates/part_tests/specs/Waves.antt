-- A picker of the tests' own, and the jobs of their waves.
use Rattle.std.specs.Prelude.{◌≡◌, ℕ, ◌-◌, Option, Some, None}
use Rattle.dram_model.specs.View.{ChipView, HasBegun}
use Rattle.wave_model.specs.Schedule.{Picker}
use Rattle.dram_model.specs.declared.geometry.Geometry.{Geometry}

-- the last of the live banks; the state is how many were live at the first pick
abbrev pub first_seen : Option ℕ → ℕ → Option ℕ
first_seen None live = Some live
first_seen (Some first) live = Some first

-- a picker that always takes the last live bank
abbrev pub last_live : Picker (Option ℕ)
last_live = record { choice = λ state live. live - 1; next = first_seen }

-- two banks of 64 columns
abbrev pub two_banks : Geometry
two_banks = record { banks = 2; rows = 64; words = 1 }

-- it has begun with this shape, and has done few calls
pub record IsReady (chip : ChipView) : Type 0 where
  pub begun : HasBegun chip
  pub shape : chip.geometry ≡ two_banks
  pub aap : chip.counters.aap ≡ 0
  pub ap : chip.counters.ap ≡ 0
  pub reads : chip.counters.reads ≡ 0
