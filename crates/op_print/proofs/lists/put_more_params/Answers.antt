use Rattle.op_print.specs.Canonical.{after_comma, param_text}
use Rattle.op_print.proofs.Loops.{twice, written-more}
use Rattle.op_print.proofs.lists.put_more_params.Goals as goal

pub loop-param-preserved : goal.loop-param-preserved
loop-param-preserved c = written-more (after_comma param_text) c.args.params.now c.loop-param.param-index
    c.param-item.result _ _ _ c.loop-param-test.true c.param-item.is c.loop-param.invariant
    (twice _ _ _ _ _ c.in_ok-put_comma.ensures c.in_ok-put_param.ensures)
