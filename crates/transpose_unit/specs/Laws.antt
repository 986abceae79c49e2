-- What the writes of an object leave.
use Rattle.std.specs.Prelude.{◌≡◌, ℕ, ◌+◌, ◌*◌, ◌<◌, ◌^◌, Bool, false, ◌&&◌, nat_le, nat_lt, List}
use Rattle.std.specs.Prelude.{length, map, All}
use Rattle.dram_model.specs.declared.geometry.Geometry.{Geometry}
use Rattle.dram_model.specs.declared.address.Cell.{Cell}
use Rattle.dram_model.specs.declared.address.Cell.TheVariants.{T, Dcc, C, D}
use Rattle.dram_model.specs.declared.dram.Counters.{Counters}
use Rattle.dram_model.specs.Chip.{Banks, after, all_counted}
use Rattle.dram_model.specs.Elements.{column_count, segments_of, numbers_in, size_of, padded_to}
use Rattle.dram_model.specs.Elements.{write_events}

-- the cell lies in one of the n rows from the base on
abbrev pub is_in_rows : (base n : ℕ) → Cell → Bool
is_in_rows base n (D row) = nat_le base row && nat_lt row (base + n)
is_in_rows base n (T k) = false
is_in_rows base n (Dcc k) = false
is_in_rows base n (C k) = false

-- After the writes the columns spell the values, and 0 past them. Cells of other rows stay, and so
-- do other banks. Each row of each bank is one write.
pub record WritesHold : Type 0 where
  pub numbers : (g : Geometry) (base n : ℕ) (values : List ℕ) (banks : Banks) → 0 < g.words
      → All (λ v. v < 2 ^ n) values
      → ((bank : ℕ) → bank < segments_of g (length values) → length (banks bank) ≡ column_count g)
      → numbers_in g (after (write_events g base n values) banks) base n (length values)
      ≡ padded_to (size_of g (length values)) values
  pub others : (g : Geometry) (base n : ℕ) (values : List ℕ) (banks : Banks) (bank : ℕ)
      (cell : Cell) → is_in_rows base n cell ≡ false
      → map (λ column. column cell) (after (write_events g base n values) banks bank)
      ≡ map (λ column. column cell) (banks bank)
  pub following : (g : Geometry) (base n : ℕ) (values : List ℕ) (banks : Banks) (bank : ℕ)
      → (bank < segments_of g (length values) → ⊥)
      → after (write_events g base n values) banks bank ≡ banks bank
  pub counted : (g : Geometry) (base n : ℕ) (values : List ℕ) (counters : Counters)
      → all_counted (write_events g base n values) counters
      ≡ record counters { writes = counters.writes + n * segments_of g (length values) }
