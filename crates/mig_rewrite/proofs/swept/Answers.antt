use Rattle.mig_rewrite.proofs.Common.{arith}
use Rattle.mig_rewrite.proofs.Keeping.{keeps-twice}
use Rattle.mig_rewrite.proofs.swept.Goals as goal

pub loop-now-preserved : goal.loop-now-preserved
loop-now-preserved c =
    let so = c.loop-now.invariant in
    let now = c.loop-now.now in
    let next = c.in_ok-next.next in
    record {
      keeps = keeps-twice c.args.m.now.mig now.mig next.mig c.args.m.now.outs.items now.outs.items
          next.outs.items so.keeps c.in_ok-next.ensures.keeps;
      named = c.in_ok-next.ensures.named;
      count = omega (arith, c.in_ok-next.ensures.count, so.count);
    }
