use Rattle.op_text.specs.Language.{statement}
use Rattle.op_print.specs.Canonical.{statement_lines}
use Rattle.op_print.proofs.Loops.{mapped-more}
use Rattle.op_print.proofs.statements.put_body.Goals as goal

pub loop-stmt-preserved : goal.loop-stmt-preserved
loop-stmt-preserved c = mapped-more statement_lines statement c.args.body.now c.loop-stmt.stmt-index
    c.stmt-item.result _ _ _ c.loop-stmt-test.true c.stmt-item.is c.loop-stmt.invariant
    c.in_ok-put_statement.ensures
