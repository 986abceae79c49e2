-- Damage: cells that are inverted.
use Rattle.std.specs.Prelude.{ℕ, zero, suc, ◌+◌, ◌==◌, Bool, not, ◌&&◌, if◌then◌else◌, List, []}
use Rattle.std.specs.Prelude.{◌∷◌, filter}
use Rattle.std.specs.List.{list_all, list_any, range_with_len}
use Rattle.bit_rows.specs.Bits.{majority}
use Rattle.dram_model.specs.declared.address.Cell.TheVariants.{D}
use Rattle.dram_model.specs.Column.{Column, drive, plain}
use Rattle.dram_model.specs.Chip.{Banks}
use Rattle.object_alloc.specs.declared.table.Object.{Object}
use Rattle.guard_model.specs.declared.Flip.{Flip}

-- the data row's cell of one column is inverted
abbrev pub inverted : ℕ → Column → Column
inverted row s = drive (plain (D row)) (not (s (D row))) s

-- the columns after the data row's cell of the column with this number is inverted
abbrev pub inverted_at : ℕ → ℕ → List Column → List Column
inverted_at column row [] = []
inverted_at zero row (s ∷ columns) = inverted row s ∷ columns
inverted_at (suc column) row (s ∷ columns) = s ∷ inverted_at column row columns

-- one cell of one bank is inverted
abbrev pub flipped : Flip → Banks → Banks
flipped f banks = λ bank. if f.bank == bank then inverted_at f.column f.row
    (banks bank) else banks bank

-- a row with the bit of one column inverted
abbrev pub with_bit_inverted : ℕ → List Bool → List Bool
with_bit_inverted column [] = []
with_bit_inverted zero (b ∷ bits) = not b ∷ bits
with_bit_inverted (suc column) (b ∷ bits) = b ∷ with_bit_inverted column bits

-- the banks after these flips, one after another
abbrev pub all_flipped : List Flip → Banks → Banks
all_flipped [] banks = banks
all_flipped (f ∷ flips) banks = all_flipped flips (flipped f banks)

-- the flips that come before instruction k
abbrev pub due : ℕ → List Flip → List Flip
due k flips = filter (λ f. f.before == k) flips

-- a flip hits the cell of this row, in a column of a bank
abbrev pub hits : ℕ → ℕ → ℕ → Flip → Bool
hits bank column row f = (f.bank == bank) && ((f.column == column) && (f.row == row))

-- some flip hits it
abbrev pub is_hit : List Flip → ℕ → ℕ → ℕ → Bool
is_hit flips bank column row = list_any (hits bank column row) flips

-- the element that three copies have in a column of a bank survives: of each of its cells at most
-- one of the three is hit
abbrev pub survives : List Flip → ℕ → ℕ → Object → Object → Object → Bool
survives flips bank column x y z = list_all (λ k. not (majority
    (is_hit flips bank column (x.base + k)) (is_hit flips bank column (y.base + k))
    (is_hit flips bank column (z.base + k)))) (range_with_len 0 x.width)
