-- A stage: the rows of one bank's part of an object, one after the other.
use Rattle.std.specs.Prelude.{◌≡◌, ℕ, ◌+◌, ◌*◌, ◌<◌, List, map, take, drop, slice_index_or, nat_le}
use Rattle.std.specs.Prelude.{if◌then◌else◌}
use Rattle.std.specs.List.{range_with_len}
use Rattle.bit_rows.specs.Bits.{value, bit_at, bit_in, bits_of_words}
use Rattle.dram_model.specs.Chip.{Event}
use Rattle.dram_model.specs.Chip.Event.{Write}

-- how many rows the stage of an object of n bits has
abbrev pub stage_rows : ℕ → ℕ
stage_rows n = if nat_le n 64 then 64 else 128

-- row k of a stage whose rows have so many words
abbrev pub stage_row : ℕ → List ℕ → ℕ → List ℕ
stage_row words stage k = take words (drop (k * words) stage)

-- the number that the first n rows of a stage spell in a column, the lowest bit first
abbrev pub stage_number : ℕ → ℕ → List ℕ → ℕ → ℕ
stage_number words n stage column =
    value (map (λ k. bit_in (bits_of_words (stage_row words stage k)) column) (range_with_len 0 n))

-- bit j of word i is bit i of word j
abbrev pub IsTransposed : List ℕ → List ℕ → Type 0
IsTransposed old new = (i j : ℕ) → i < 64 → j < 64
    → bit_at (slice_index_or new i 0) j ≡ bit_at (slice_index_or old j 0) i

-- the first n rows of a stage, written to n rows of a bank
abbrev pub stage_events : (words bank base n : ℕ) → List ℕ → List Event
stage_events words bank base n stage = map (λ k.
    Write bank (base + k) (bits_of_words (stage_row words stage k))) (range_with_len 0 n)
