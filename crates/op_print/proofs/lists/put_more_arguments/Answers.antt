use Rattle.op_print.specs.Canonical.{after_comma, spelled}
use Rattle.op_print.proofs.Loops.{twice, written-more}
use Rattle.op_print.proofs.lists.put_more_arguments.Goals as goal

pub loop-arg-preserved : goal.loop-arg-preserved
loop-arg-preserved c = written-more (after_comma spelled) c.args.args.now c.loop-arg.arg-index
    c.arg-item.result _ _ _ c.loop-arg-test.true c.arg-item.is c.loop-arg.invariant
    (twice _ _ _ _ _ c.in_ok-put_comma.ensures
    (rw c.bytes.ensures.value at c.in_ok-put.ensures))
