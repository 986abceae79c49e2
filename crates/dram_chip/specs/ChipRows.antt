-- The banks of a chip as they are kept
use Rattle.std.specs.Prelude.{◌≡◌, ◌*◌, List, [], ◌∷◌, map, length, All, zero, suc}
use Rattle.std.specs.List.{range_with_len}
use Rattle.dram_chip.specs.declared.bank.Bank.{Bank}
use Rattle.dram_model.specs.declared.geometry.Geometry.{Geometry}
use Rattle.dram_model.specs.Column.{Column}
use Rattle.dram_model.specs.Chip.{Banks}
use Rattle.dram_chip.specs.Rows.{column_at, data_row_count, columns_of, IsReady}

-- the columns of a bank, in order
abbrev pub columns_in : Bank → List Column
columns_in bank = map (column_at bank) (range_with_len 0 (columns_of bank))

-- the columns of each bank of a chip, by its number
abbrev pub banks_in : List Bank → Banks
banks_in [] b = []
banks_in (bank ∷ banks) zero = columns_in bank
banks_in (bank ∷ banks) (suc b) = banks_in banks b

-- a bank of this geometry
pub record Fits (g : Geometry) (bank : Bank) : Type 0 where
  pub ready : IsReady bank
  pub rows : data_row_count bank ≡ g.rows
  pub columns : columns_of bank ≡ 64 * g.words

-- every bank of this geometry is there
pub record HasBanks (g : Geometry) (banks : List Bank) : Type 0 where
  pub count : length banks ≡ g.banks
  pub each : All (Fits g) banks
