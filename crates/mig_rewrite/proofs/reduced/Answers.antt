use Rattle.mig_rewrite.proofs.Common.{arith}
use Rattle.mig_rewrite.proofs.Keeping.{keeps-twice}
use Rattle.mig_rewrite.proofs.reduced.Goals as goal

pub loop-now-preserved : goal.loop-now-preserved
loop-now-preserved c =
    let so = c.loop-now.invariant in
    let old = c.loop-now.now in
    let new = c.in_ok-now-in-Some.now in
    record {
      keeps = keeps-twice c.args.m.now.mig old.mig new.mig c.args.m.now.outs.items old.outs.items
          new.outs.items so.keeps c.in_ok-now-in-Some.ensures.keeps;
      named = c.in_ok-now-in-Some.ensures.named;
      count = omega (arith, c.in_ok-now-in-Some.ensures.count, so.count);
      reached = c.in_ok-now-in-Some.ensures.reached;
    }
