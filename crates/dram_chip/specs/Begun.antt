-- Whether a chip has begun: its flag is set, and its banks have its shape, which a chip may have.
-- As a test, since a chip shows a Bool.
use Rattle.std.specs.Prelude.{ℕ, zero, suc, ◌+◌, ◌*◌, ◌==◌, Bool, true, not, ◌&&◌, List, [], ◌∷◌}
use Rattle.std.specs.Prelude.{length}
use mathlib.Core.Bool.{beq}
use Rattle.dram_chip.specs.declared.bank.Bank.{Bank}
use Rattle.dram_chip.specs.declared.chip.Chip.{Chip}
use Rattle.dram_model.specs.declared.geometry.Geometry.{Geometry}
use Rattle.dram_model.specs.Geometry.{is_geometry}
use Rattle.dram_chip.specs.Rows.{row_bit, data_row_count, columns_of}

-- every number below n passes the test
unfoldable pub all_below : (ℕ → Bool) → ℕ → Bool
all_below test zero = true
all_below test (suc n) = test n && all_below test n

-- C0 and C1 have their bits
abbrev pub are_constant : ℕ → List ℕ → Bool
are_constant words all = all_below (λ k. all_below (λ c.
    beq (row_bit words all (6 + k) c) (not (k == 0))) (64 * words)) 2

-- the bank is one of this geometry, with all its rows
abbrev pub is_bank : Geometry → Bank → Bool
is_bank g bank = (length bank.all.items == bank.words * (8 + bank.rows)
    && are_constant bank.words bank.all.items)
    && (data_row_count bank == g.rows && columns_of bank == 64 * g.words)

-- every bank of a list is one of this geometry
unfoldable pub are_banks : Geometry → List Bank → Bool
are_banks g [] = true
are_banks g (bank ∷ banks) = is_bank g bank && are_banks g banks

-- a chip may have this geometry, and every bank of it is there
abbrev pub has_banks : Geometry → List Bank → Bool
has_banks g banks = is_geometry g && (length banks == g.banks && are_banks g banks)

-- what a chip shows of whether it has begun
abbrev pub has_begun : Chip → Bool
has_begun chip = chip.begun && has_banks chip.geometry chip.banks.items
