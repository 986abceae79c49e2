use Rattle.tmr_guard.proofs.Common.{◌/◌, ◌%◌, arith}
use Rattle.tmr_guard.proofs.Columns.{row_inverted}
use Rattle.tmr_guard.proofs.flips.invert_column.Goals as goal

pub returns-clause-bits : goal.returns-clause-bits
returns-clause-bits c = row_inverted c.args.row.now (c.args.column / 64) (c.args.column % 64)
    c.args.column c.invert.result (omega (arith, c.requires)) (omega arith) (omega arith)
    c.invert.ensures
