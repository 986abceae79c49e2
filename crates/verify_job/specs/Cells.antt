-- The names of cells under the canonical binding, as a listing has them.
use Rattle.std.specs.Prelude.{ℕ, ◌+◌, ◌-◌, ◌*◌, ◌/◌, ◌%◌, nat_lt, if◌then◌else◌}
use Rattle.std.specs.Prelude.{List, [], ◌∷◌, ◌++◌, codes, decimal}
use Rattle.std.specs.List.{flat_map}
use Rattle.dram_model.specs.declared.address.Cell.{Cell}
use Rattle.dram_model.specs.declared.address.Cell.TheVariants.{T, Dcc, C, D}
use Rattle.uprog_code.specs.Shape.{Shape}
use Rattle.binding_laws.specs.Canonical.{result_rows, value_rows}

-- a position in brackets
abbrev pub position_text : ℕ → List ℕ
position_text k = codes "[" ++ decimal k ++ codes "]"

-- which value, and which position of it, the k-th row of values is, n rows each
abbrev pub value_text : List ℕ → ℕ → ℕ → List ℕ
value_text letter n k = letter ++ decimal (k / n) ++ position_text (k % n)

-- the name of the k-th row behind the values: of a scratch bit, a scratch word, the spill group
abbrev pub work_text : ℕ → ℕ → ℕ → ℕ → List ℕ
work_text bits words n k =
    if nat_lt k bits then codes "t" ++ decimal k
    else if nat_lt k (bits + n * words) then value_text (codes "w") n (k - bits)
    else codes "p" ++ decimal (k - (bits + n * words))

-- the name of a data row: of a result, a source, or behind them
abbrev pub row_text : Shape → ℕ → ℕ → List ℕ
row_text shape n row =
    if nat_lt row n then codes "y" ++ position_text row
    else if nat_lt row (result_rows shape n) then codes "z" ++ position_text (row - n)
    else if nat_lt row (value_rows shape n)
    then value_text (codes "s") n (row - result_rows shape n)
    else work_text shape.bits shape.words n (row - value_rows shape n)

-- the name of a cell
abbrev pub name_text : Shape → ℕ → Cell → List ℕ
name_text shape n (T k) = codes "T" ++ decimal k
name_text shape n (Dcc k) = codes "DCC" ++ decimal k
name_text shape n (C k) = codes "C" ++ decimal k
name_text shape n (D k) = row_text shape n k

-- after a blank
abbrev pub cell_text : Shape → ℕ → Cell → List ℕ
cell_text shape n cell = codes " " ++ name_text shape n cell

-- cells, each after a blank
abbrev pub cells_text : Shape → ℕ → List Cell → List ℕ
cells_text shape n cells = flat_map (cell_text shape n) cells

-- the cells that are 1 at a start, where there are any
abbrev pub ones_text : Shape → ℕ → List Cell → List ℕ
ones_text shape n [] = []
ones_text shape n (cell ∷ cells) = codes " from" ++ cells_text shape n (cell ∷ cells)
