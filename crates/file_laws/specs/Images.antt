-- Where a refused image file is at fault.
use Rattle.std.specs.Prelude.{ℕ, ◌+◌, ◌*◌}
use Rattle.object_alloc.specs.declared.fault.ImageKind.{ImageKind}
use Rattle.object_alloc.specs.declared.fault.ImageKind.TheVariants as kinds
use Rattle.object_alloc.specs.Reading.{image_in}
use Rattle.file_laws.specs.Stands.{Ends, FaultsStand}

-- the fields of an object's record, each with its first byte and the byte after it: the length of
-- its name, its name, its width, its base, and the number of its elements
pub data IsObjectField : ℕ → ℕ → Type 0 where
  NameLength : IsObjectField 0 1
  Name : IsObjectField 1 17
  Width : IsObjectField 17 18
  Base : IsObjectField 18 20
  Count : IsObjectField 20 24

-- the fields of an image file but its rows, in bytes: "SDMI", the version, the banks, the data rows
-- and the words of a row, the number of objects, and a record of 24 bytes for each
pub data IsField : ℕ → ℕ → Type 0 where
  Magic : IsField 0 4
  Version : IsField 4 6
  Banks : IsField 6 8
  Rows : IsField 8 10
  Words : IsField 10 12
  Objects : IsField 12 14
  InObject : (k : ℕ) {from to : ℕ} → IsObjectField from to
      → IsField (14 + 24 * k + from) (14 + 24 * k + to)

-- the kinds that no field breaks
abbrev pub ends : Ends ImageKind
ends = record { short = kinds.Short; rest = kinds.Rest }

-- each fault that reading an image file tells is one of the file
abbrev pub ImageFaultsStand : Type 0
ImageFaultsStand = FaultsStand ends IsField image_in
