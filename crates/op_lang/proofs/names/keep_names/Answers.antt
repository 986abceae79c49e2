use Rattle.op_lang.proofs.Common.{Param}
use Rattle.op_lang.proofs.Loops.{added-more, mapped-more}
use Rattle.op_lang.proofs.names.keep_names.Goals as goal

pub loop-param-preserved : goal.loop-param-preserved
loop-param-preserved c = added-more _ _ _ _ _ _ _ c.loop-param.invariant
    c.in_ok-keep.ensures c.copied.ensures (mapped-more (λ (p : Param). p.name) c.args.params.now
    c.loop-param.param-index c.param-item.result c.loop-param-test.true c.param-item.is)
