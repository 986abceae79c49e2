-- Rows of bits as bytes.
use Rattle.std.specs.Prelude.{ℕ, ◌*◌, List, Bool, map, flat_map, take, drop}
use Rattle.std.specs.List.{range_with_len}
use Rattle.bit_rows.specs.Bits.{bits, value}

-- the bits of bytes, the lowest bit of the first byte first
abbrev pub bits_of_bytes : List ℕ → List Bool
bits_of_bytes bytes = flat_map (λ byte. bits byte 8) bytes

-- so many bytes of bits, the lowest bit of each byte first
abbrev pub bytes_of_bits : ℕ → List Bool → List ℕ
bytes_of_bits count row = map (λ k. value (take 8 (drop (8 * k) row))) (range_with_len 0 count)
