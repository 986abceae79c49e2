-- A chip that was opened on an image.
use Rattle.std.specs.Prelude.{List, map, flat_map}
use Rattle.std.specs.List.{range_with_len}
use Rattle.dram_model.specs.declared.geometry.Geometry.{Geometry}
use Rattle.dram_model.specs.Chip.{Banks, Event, after, row_in, blank_banks}
use Rattle.dram_model.specs.Chip.Event.{Write}
use Rattle.object_alloc.specs.Listed.{Named}
use Rattle.object_alloc.specs.Spelling.{Rows}
use Rattle.machine_model.specs.Columns.{columns}
use Rattle.machine_model.specs.Steps.{Held}

-- an image: its geometry, its objects by name, and its rows
pub record Image : Type 0 where
  pub geometry : Geometry
  pub table : List Named
  pub rows : Rows

-- the writes of an image's rows, bank by bank and rows upwards
abbrev pub row_writes : Image → List Event
row_writes i =
    flat_map (λ bank. map (λ row. Write bank row (i.rows bank row))
    (range_with_len 0 i.geometry.rows)) (range_with_len 0 i.geometry.banks)

-- the banks after a chip has begun and has taken an image's rows
abbrev pub opened : Image → Banks
opened i = after (row_writes i) (blank_banks i.geometry)

-- the rows that banks hold
abbrev pub rows_in_banks : Banks → Rows
rows_in_banks banks bank row = row_in row (banks bank)

-- an image's objects with the numbers in their columns
abbrev pub objects_held : Image → List Held
objects_held i = map (λ p. record {
  name = p.0;
  object = p.1;
  numbers = columns i.geometry (opened i) p.1;
}) i.table
