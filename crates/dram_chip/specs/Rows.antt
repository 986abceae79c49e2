-- A bank as it is kept: the words of all its rows, one row after another
use Rattle.std.specs.Prelude.{◌≡◌, ℕ, ◌<◌, ◌+◌, ◌*◌, ◌/◌, ◌%◌, ◌==◌, Bool, true, false, not, ◌&&◌}
use Rattle.std.specs.Prelude.{nat_lt, ◌≤◌, ◌⊎◌, length, slice_index, List}
use Rattle.dram_chip.specs.declared.b_group.Wire.{Wire}
use Rattle.dram_chip.specs.declared.bank.Bank.{Bank}
use Rattle.dram_model.specs.declared.address.Cell.{Cell}
use Rattle.dram_model.specs.declared.address.Cell.TheVariants.{T, Dcc, C, D}
use Rattle.bit_rows.specs.Bits.{word_bit, majority}
use Rattle.dram_model.specs.Column.{Column}

-- which row is a cell's. The DCC rows stand first: so the lines of an address that raises three
-- stand in the order of their rows
abbrev pub place : Cell → ℕ
place (Dcc k) = k
place (T k) = 2 + k
place (C k) = 6 + k
place (D k) = 8 + k

-- a wire's row is that of its line's cell
abbrev pub IsWired : Wire → Type 0
IsWired wire = wire.row ≡ place wire.line.cell

-- a cell that is kept: what stands at a C cell is not read
abbrev pub is_kept : Cell → Bool
is_kept (Dcc k) = nat_lt k 2
is_kept (T k) = nat_lt k 4
is_kept (C k) = false
is_kept (D k) = true

-- how many data rows the bank has, and how many columns
abbrev pub data_row_count : Bank → ℕ
data_row_count bank = bank.rows

-- how many columns the bank has: 64 to a word
abbrev pub columns_of : Bank → ℕ
columns_of bank = 64 * bank.words

-- the bit in row p at column c, where each row has so many words
abbrev pub row_bit : ℕ → List ℕ → ℕ → ℕ → Bool
row_bit words all p c = word_bit all (words * p + c / 64) (c % 64)

-- a column of such rows
abbrev pub column_in : ℕ → List ℕ → ℕ → Column
column_in words all c = λ cell. is_kept cell && row_bit words all (place cell) c

-- the column of a bank with this number
abbrev pub column_at : Bank → ℕ → Column
column_at bank c = column_in bank.words bank.all.items c

-- C0 has zeros, and C1 has ones
abbrev pub HasConstants : ℕ → List ℕ → Type 0
HasConstants words all = (k c : ℕ) → k < 2 → c < 64 * words
    → row_bit words all (6 + k) c ≡ not (k == 0)

-- all rows are there, and the constants have their bits
pub record IsReady (bank : Bank) : Type 0 where
  pub size : length bank.all.items ≡ bank.words * (8 + bank.rows)
  pub constant : HasConstants bank.words bank.all.items

-- the row of n words at `to` is now the majority of those at p, q and r
abbrev pub TookMajority : ℕ → ℕ → ℕ → ℕ → ℕ → List ℕ → List ℕ → Type 0
TookMajority n to p q r old new =
    (i k : ℕ) → i < n → word_bit new (to + i) k ≡ majority (word_bit old (p + i) k)
    (word_bit old (q + i) k) (word_bit old (r + i) k)

-- three rows of n words have all taken their majority, and no other word has changed
pub record Settled (n p q r : ℕ) (old new : List ℕ) : Type 0 where
  pub first : TookMajority n p p q r old new
  pub second : TookMajority n q p q r old new
  pub third : TookMajority n r p q r old new
  pub others : (k : ℕ) → ((k < p) ⊎ (p + n ≤ k)) → ((k < q) ⊎ (q + n ≤ k)) → ((k < r) ⊎ (r + n ≤ k))
      → slice_index new k ≡ slice_index old k
