use Rattle.op_lang.proofs.Loops.{added-more, taken-more}
use Rattle.op_lang.proofs.names.keep_all.Goals as goal

pub loop-name-preserved : goal.loop-name-preserved
loop-name-preserved c = added-more _ _ _ _ _ _ _ c.loop-name.invariant
    c.in_ok-keep.ensures c.copied.ensures (taken-more c.args.more.now c.loop-name.name-index
    c.name-item.result c.loop-name-test.true c.name-item.is)
