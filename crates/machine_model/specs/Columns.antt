-- An object's elements in the banks' columns.
use Rattle.std.specs.Prelude.{ℕ, List}
use Rattle.dram_model.specs.declared.geometry.Geometry.{Geometry}
use Rattle.dram_model.specs.Chip.{Banks, Event}
use Rattle.dram_model.specs.Elements.{segments_of, numbers_in, size_of, row_by_row}
use Rattle.object_alloc.specs.declared.table.Object.{Object}

-- how many banks its elements take
abbrev pub segments : Geometry → Object → ℕ
segments g o = segments_of g o.count

-- an object's numbers, segment by segment and column by column
abbrev pub columns : Geometry → Banks → Object → List ℕ
columns g banks o = numbers_in g banks o.base o.width o.count

-- how many numbers an object has, those past its count too
abbrev pub object_size : Geometry → Object → ℕ
object_size g o = size_of g o.count

-- one event for each row of the object, segment by segment and rows upwards in each
abbrev pub each_row : Geometry → Object → (ℕ → ℕ → Event) → List Event
each_row g o event = row_by_row (segments g o) o.width event
