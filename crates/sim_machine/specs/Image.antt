-- The bytes of a chip's rows: what the reading of an image's part comes to, for its proof.
use Rattle.std.specs.Prelude.{ℕ, ◌*◌, List, flat_map}
use Rattle.std.specs.List.{range_with_len}
use Rattle.dram_model.specs.declared.geometry.Geometry.{Geometry}
use Rattle.dram_model.specs.Chip.{Banks, row_in}
use Rattle.object_alloc.specs.Bytes.{bytes_of_bits}

-- the first k rows of a bank, upwards
abbrev pub bank_bytes : Geometry → Banks → ℕ → ℕ → List ℕ
bank_bytes g banks bank k = flat_map (λ row. bytes_of_bits (8 * g.words) (row_in row (banks bank)))
    (range_with_len 0 k)
