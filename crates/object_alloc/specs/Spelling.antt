-- The one spelling of an image file, and what an image may be.
use Rattle.std.specs.Prelude.{◌≡◌, ℕ, ◌+◌, ◌*◌, ◌<◌, ◌≤◌, true, false, List, ◌∷◌, ◌++◌, Bool}
use Rattle.std.specs.Prelude.{flat_map, length, take, drop, replicate, codes, All}
use Rattle.std.specs.List.{range_with_len}
use Rattle.std.specs.Int.{to_le_bytes, w16, w32}
use Rattle.bit_rows.specs.declared.TheConstants.{WIDTH_MAX}
use Rattle.dram_model.specs.declared.geometry.Geometry.{Geometry}
use Rattle.dram_model.specs.Geometry.{is_geometry}
use Rattle.dram_model.specs.Elements.{column_count}
use Rattle.text_lex.specs.Spelled.{fits_name}
use Rattle.object_alloc.specs.declared.table.Object.{Object}
use Rattle.file_fields.specs.Fields.{name_bytes}
use Rattle.object_alloc.specs.Bytes.{bits_of_bytes, bytes_of_bits}
use Rattle.object_alloc.specs.Listed.{Named, IsTable, limit_of}

-- the 24 bytes of an object
abbrev pub object_bytes : Named → List ℕ
object_bytes named = name_bytes named.0 ++ (named.1.width ∷ to_le_bytes w16 named.1.base
    ++ to_le_bytes w32 named.1.count)

-- how many objects there are, and each of them
abbrev pub table_bytes : List Named → List ℕ
table_bytes table = to_le_bytes w16 (length table) ++ flat_map object_bytes table

-- the shape in six bytes: banks, data rows of a bank, and words of a row
abbrev pub geometry_bytes : Geometry → List ℕ
geometry_bytes g = to_le_bytes w16 g.banks ++ (to_le_bytes w16 g.rows ++ to_le_bytes w16 g.words)

-- SDMI, and the version, which is 1
abbrev pub opening_bytes : List ℕ
opening_bytes = codes "SDMI" ++ to_le_bytes w16 1

-- all that stands before the rows
abbrev pub head_bytes : Geometry → List Named → List ℕ
head_bytes g table = opening_bytes ++ (geometry_bytes g ++ table_bytes table)

-- what each data row of each bank holds, bit by bit
abbrev pub Rows : Type 0
Rows = (bank row : ℕ) → List Bool

-- bank by bank and row by row, 8 bytes for each word
abbrev pub rows_bytes : Geometry → Rows → List ℕ
rows_bytes g rows = flat_map (λ bank. flat_map (λ row. bytes_of_bits (8 * g.words) (rows bank row))
    (range_with_len 0 g.rows)) (range_with_len 0 g.banks)

-- the file of an image
unfoldable pub image_bytes : Geometry → List Named → Rows → List ℕ
image_bytes g table rows = head_bytes g table ++ rows_bytes g rows

-- zeros
abbrev pub blank_rows : Geometry → Rows
blank_rows g = λ bank row. replicate (column_count g) false

-- the bytes of one row among those of all rows
abbrev pub row_at : Geometry → List ℕ → (bank row : ℕ) → List ℕ
row_at g bytes bank row = take (8 * g.words) (drop (8 * g.words * (bank * g.rows + row)) bytes)

-- the rows that these bytes spell
abbrev pub rows_in : Geometry → List ℕ → Rows
rows_in g bytes = λ bank row. bits_of_bytes (row_at g bytes bank row)

-- what an image may say of an object
pub record IsObject (g : Geometry) (o : Object) : Type 0 where
  pub wide : 0 < o.width
  pub narrow : o.width ≤ WIDTH_MAX
  pub some : 0 < o.count
  pub fits : o.count ≤ column_count g * g.banks

-- an image: a geometry, a table of objects that fit it, and its rows
pub record IsImage (g : Geometry) (table : List Named) (rows : Rows) : Type 0 where
  pub geometry : is_geometry g ≡ true
  pub listed : IsTable (limit_of g) table
  pub names : All (λ named. fits_name named.0 ≡ true) table
  pub objects : All (λ named. IsObject g named.1) table
  pub shaped : (bank row : ℕ) → bank < g.banks → row < g.rows
      → length (rows bank row) ≡ column_count g
