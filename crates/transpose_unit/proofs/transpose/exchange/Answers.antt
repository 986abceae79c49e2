use Rattle.transpose_unit.proofs.Exchanges.{one-pair}
use Rattle.transpose_unit.proofs.transpose.exchange.Goals as goal

pub loop-k-preserved : goal.loop-k-preserved
loop-k-preserved c = one-pair c.args.weight c.loop-k.k c.lower_of.result c.upper_of.result
    c.args.m.now c.loop-k.m c.requires.weight c.loop-k-test.true c.loop-k.invariant
    c.lower_of.ensures c.upper_of.ensures
