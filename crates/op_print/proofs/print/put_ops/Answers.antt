use Rattle.op_text.specs.Language.{operation}
use Rattle.op_print.specs.Canonical.{op_lines}
use Rattle.op_print.proofs.Loops.{mapped-more}
use Rattle.op_print.proofs.print.put_ops.Goals as goal

pub loop-op-preserved : goal.loop-op-preserved
loop-op-preserved c = mapped-more op_lines operation c.args.ops.now c.loop-op.op-index
    c.op-item.result _ _ _ c.loop-op-test.true c.op-item.is c.loop-op.invariant
    c.in_ok-put_op.ensures
