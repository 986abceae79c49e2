use Rattle.std.proofs.Common.{◌≡◌, ◌++◌, drop}
use Rattle.uprog_code.specs.Shape.{shape_of}
use Rattle.verify_job.specs.Cells.{cells_text}
use Rattle.verify_job.proofs.cells.put_cells.Given as goal

-- what was written, with the cells that are left, is all
abbrev pub invariant-loop-cell : goal.invariant-loop-cell
invariant-loop-cell l = l.out.items
    ++ cells_text (shape_of l.head) l.n (drop l.cell-index l.cells)
    ≡ l.initial.out.items ++ cells_text (shape_of l.head) l.n l.cells
