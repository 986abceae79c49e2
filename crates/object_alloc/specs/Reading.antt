-- Reading an image file field by field: what it holds, or the first field that is not whole or
-- breaks its rule.
use Rattle.std.specs.Prelude.{◌≡◌, ℕ, zero, suc, ◌+◌, ◌*◌, Bool, ◌&&◌, nat_le, ◌==◌, List, [], ◌∷◌}
use Rattle.std.specs.Prelude.{◌++◌, length, Result, Ok, Err, codes}
use Rattle.std.specs.Int.{Width, w8, w16, w32}
use Rattle.std.specs.Str.{bytes_eq}
use Rattle.bit_rows.specs.declared.TheConstants.{WIDTH_MAX}
use Rattle.dram_model.specs.declared.geometry.Geometry.{Geometry}
use Rattle.dram_model.specs.Geometry.{is_between, fits_size}
use Rattle.dram_model.specs.Elements.{column_count}
use Rattle.object_alloc.specs.declared.fault.ImageKind.{ImageKind}
use Rattle.object_alloc.specs.declared.fault.ImageKind.TheVariants as kinds
use Rattle.object_alloc.specs.declared.fault.ImageNo.{ImageNo}
use Rattle.object_alloc.specs.declared.fault.ImageNo.TheVariants as no
use Rattle.object_alloc.specs.Free.{are_free}
use Rattle.object_alloc.specs.Listed.{Named, objects_of, has_name, limit_of}
use Rattle.file_fields.specs.declared.faults.FileFault.{FileFault}
use Rattle.file_fields.specs.Fields as fields
use Rattle.file_fields.specs.Fields.{◌>>=◌, rule}

-- where an image file breaks a rule, and which
abbrev pub ImageFault : Type 0
ImageFault = FileFault ImageKind

-- why no image was made of a file: its first fault, or want of memory
abbrev pub IsFault : {Y : Type 0} → ImageNo → Result Y ImageFault → Type 0
IsFault (no.Fault f) read = read ≡ Err f
IsFault no.NoMemory read = Unit {0}

-- What a function returned, seen by view, is what reading gives, unless memory ran out.
abbrev pub Answers : {X Y : Type 0} → (X → Y) → Result X ImageNo → Result Y ImageFault → Type 0
Answers view (Ok x) read = read ≡ Ok (view x)
Answers view (Err e) read = IsFault e read

-- so many bytes of an image file. A file that ends before is Short at its length
abbrev pub bytes_at : ℕ → ℕ → List ℕ → Result (List ℕ) ImageFault
bytes_at = fields.bytes_at kinds.Short

-- a number of an image file that has to pass a test
abbrev pub field_at : Width → (ℕ → Bool) → ImageKind → ℕ → List ℕ → Result ℕ ImageFault
field_at = fields.field_at kinds.Short

-- a name that none of these objects has
abbrev pub name_at : List Named → ℕ → List ℕ → Result (List ℕ) ImageFault
name_at earlier = fields.name_at kinds.Short kinds.Object (has_name earlier)

-- the width and the base of an object
unfoldable pub place_at : Geometry → List Named → ℕ → List ℕ → Result (ℕ × ℕ) ImageFault
place_at g earlier at bytes = do
  width ← field_at w8 (is_between 1 WIDTH_MAX) kinds.Object at bytes
  base ← field_at w16 (λ base. nat_le (base + width) (limit_of g)) kinds.Object (at + 1) bytes
  apart ← rule (are_free (limit_of g) (objects_of earlier) width base) (at + 1) kinds.Overlap
  Ok (width, base)

-- the number of an object's elements: at least one, and no more than the columns of all banks
unfoldable pub count_at : Geometry → ℕ → List ℕ → Result ℕ ImageFault
count_at g at bytes = field_at w32 (is_between 1 (column_count g * g.banks)) kinds.Object at bytes

-- an object's record, where these objects stand before it
unfoldable pub object_at : Geometry → List Named → ℕ → List ℕ → Result Named ImageFault
object_at g earlier at bytes = do
  name ← name_at earlier at bytes
  place ← place_at g earlier (at + 17) bytes
  count ← count_at g (at + 20) bytes
  Ok (name, record { base = place.1; width = place.0; count = count })

-- these objects, and so many after them
unfoldable pub objects_at : ℕ → Geometry → List Named → ℕ → List ℕ → Result (List Named) ImageFault
objects_at zero g earlier at bytes = Ok earlier
objects_at (suc n) g earlier at bytes = do
  named ← object_at g earlier at bytes
  objects_at n g (earlier ++ named ∷ []) (at + 24) bytes

-- the number of objects, and that many of them
unfoldable pub table_at : Geometry → ℕ → List ℕ → Result (List Named) ImageFault
table_at g at bytes = do
  count ← field_at w16 (λ count. nat_le count 256) kinds.Object at bytes
  objects_at count g [] (at + 2) bytes

-- the shape of the chip: 1 to 16 banks, 64 to 1006 data rows, 1 to 1024 words a row, and no more in
-- all than a chip may have
unfoldable pub geometry_at : ℕ → List ℕ → Result Geometry ImageFault
geometry_at at bytes = do
  banks ← field_at w16 (is_between 1 16) kinds.Geometry at bytes
  rows ← field_at w16 (is_between 64 1006) kinds.Geometry (at + 2) bytes
  words ← field_at w16 (λ words. is_between 1 1024 words
      && fits_size (record { banks = banks; rows = rows; words = words })) kinds.Geometry (at + 4)
      bytes
  Ok (record { banks = banks; rows = rows; words = words })

-- the file begins as an image file of the version that there is
unfoldable pub opening_in : List ℕ → Result (Unit {0}) ImageFault
opening_in bytes = do
  magic ← bytes_at 4 0 bytes
  same ← rule (bytes_eq magic (codes "SDMI")) 0 kinds.Magic
  version ← field_at w16 (λ version. version == 1) kinds.Version 4 bytes
  Ok tt

-- how many bytes all the rows have, and where they begin
abbrev pub rows_size : Geometry → ℕ
rows_size g = 8 * (g.banks * g.rows * g.words)

-- where the contents of the rows begin: 14 bytes and 24 for each object
abbrev pub rows_start : List Named → ℕ
rows_start table = 14 + 24 * length table

-- what an image file holds; its rows as bytes
pub record Found : Type 0 where
  pub geometry : Geometry
  pub table : List Named
  pub rows : List ℕ

-- the rows are all that is left
unfoldable pub rows_at : Geometry → ℕ → List ℕ → Result (List ℕ) ImageFault
rows_at g at bytes = do
  rows ← bytes_at (rows_size g) at bytes
  ended ← rule (length bytes == at + rows_size g) (at + rows_size g) kinds.Rest
  Ok rows

-- what a file holds, or its first fault
unfoldable pub image_in : List ℕ → Result Found ImageFault
image_in bytes = do
  opening ← opening_in bytes
  g ← geometry_at 6 bytes
  table ← table_at g 12 bytes
  rows ← rows_at g (rows_start table) bytes
  Ok (record { geometry = g; table = table; rows = rows })
