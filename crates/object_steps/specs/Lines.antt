-- The line of an object's values.
use Rattle.std.specs.Prelude.{ℕ, ◌≤◌, List, [], ◌++◌, flat_map, take, codes, decimal}
use Rattle.dram_model.specs.declared.geometry.Geometry.{Geometry}
use Rattle.dram_model.specs.Chip.{Banks}
use Rattle.dram_model.specs.View.{ChipView, DidRead}
use Rattle.object_alloc.specs.Listed.{Named}
use Rattle.bbop_isa.specs.declared.instr.Place.{Place}
use Rattle.bbop_isa.specs.Forms.{Print}
use Rattle.machine_model.specs.Columns.{columns}
use Rattle.machine_model.specs.Routines.{Routines}
use Rattle.machine_model.specs.Refusals.{refusal, rows_of}
use Rattle.machine_model.specs.Report.{line, place_text}
use Rattle.machine_model.specs.Report.Said.{Printed}
use Rattle.machine_model.specs.Steps.{if_done}

-- each value after a blank
abbrev pub values_text : List ℕ → List ℕ
values_text values = flat_map (λ v. codes " " ++ decimal v) values

-- the values of an operand's elements, as they stand in the banks' columns
abbrev pub values_of : Geometry → Banks → List Named → Place → List ℕ
values_of g banks table place =
    let o = rows_of table place in take o.count (columns g banks o)

-- the line that shows an operand's values as another's: none where the print is refused
abbrev pub printed_line : Geometry → Routines → List Named → Banks → ℕ → (place shown : Place)
    → List ℕ
printed_line g operations table banks number place shown =
    if_done (refusal g operations table (Print place))
    (line number (Printed (place_text shown) (values_of g banks table place))) []

-- at most so many rows were read, and nothing else happened
pub record DidReadAtMost (n : ℕ) (old new : ChipView) : Type 0 where
  pub rows : ℕ
  pub few : rows ≤ n
  pub did : DidRead rows old new
