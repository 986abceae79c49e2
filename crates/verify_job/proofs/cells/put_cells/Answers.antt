use Rattle.std.specs.Prelude.{slice_index_or}
use Rattle.std.proofs.lemmas.List.{get_or_default}
use Rattle.dram_model.specs.declared.address.Cell.TheVariants.{T}
use Rattle.uprog_code.specs.Shape.{shape_of}
use Rattle.verify_job.specs.Cells.{cell_text}
use Rattle.uprog_code.proofs.Written.{next_part}
use Rattle.verify_job.proofs.cells.put_cells.Goals as goal

pub loop-cell-preserved : goal.loop-cell-preserved
loop-cell-preserved c =
    let cells = c.args.cells.now in
    let k = c.loop-cell.cell-index in
    let cell = slice_index_or cells k (T 0) in
    next_part (cell_text (shape_of c.args.head.now) c.args.n) cells k cell c.loop-cell.out.items
    c.put_cell.new.out.items _ c.loop-cell-test.true
    (get_or_default cells k (T 0) cell c.loop-cell-test.true) c.in_ok-put_cell.ensures
    c.loop-cell.invariant
