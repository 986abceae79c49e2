-- An image file is read exactly.
use Rattle.std.specs.Prelude.{◌≡◌, ℕ, ◌<◌, List, Ok}
use Rattle.dram_model.specs.declared.geometry.Geometry.{Geometry}
use Rattle.object_alloc.specs.declared.image.Image.{Image}
use Rattle.object_alloc.specs.Listed.{Named}
use Rattle.object_alloc.specs.Spelling.{Rows, rows_bytes, rows_in, image_bytes, IsImage}
use Rattle.object_alloc.specs.Reading.{Found, image_in}
use Rattle.file_fields.specs.Fields.{IsBytes}

-- what was found, without where it lies in memory
abbrev pub found_in : Image → Found
found_in i = record { geometry = i.geometry; table = i.table.pairs; rows = i.rows.now }

-- Bytes are accepted exactly where they are the spelling of an image: what is read of them is an
-- image, and they are
-- its spelling; and each image is read from its spelling.
pub record ReadsExactly : Type 0 where
  pub spelled : (bytes : List ℕ) (found : Found) → IsBytes bytes → image_in bytes ≡ Ok found
      → IsImage found.geometry found.table (rows_in found.geometry found.rows)
      × (bytes ≡ image_bytes found.geometry found.table (rows_in found.geometry found.rows))
  pub read : (g : Geometry) (table : List Named) (rows : Rows) → IsImage g table rows
      → image_in (image_bytes g table rows) ≡ Ok (record {
        geometry = g;
        table = table;
        rows = rows_bytes g rows;
      })
  pub rows : (g : Geometry) (table : List Named) (rows : Rows) (bank row : ℕ) → IsImage g table rows
      → bank < g.banks → row < g.rows
      → rows_in g (rows_bytes g rows) bank row ≡ rows bank row
