use Rattle.mig_rewrite.proofs.Common.{subst, [], ◌∷◌, ◌++◌, ◌<◌, length, take, flat_map, literals}
use Rattle.mig_rewrite.proofs.Common.{lit_at}
use Rattle.mig_rewrite.specs.Counts.{AreCounts}
use Rattle.mig_rewrite.proofs.Counting.{outputs-more}
use Rattle.mig_rewrite.proofs.tally.count_all.Goals as goal

pub loop-l-preserved : goal.loop-l-preserved
loop-l-preserved c =
    let outs = c.args.m.now.outs.items in
    let done = flat_map literals c.args.m.now.mig.nodes in
    let i = c.loop-l.l-index in
    let b : i < length outs = rw c.deref-l-items.ensures.value at c.loop-l-test.true in
    let more : AreCounts c.count.new.counts ((done ++ take i outs) ++ lit_at outs i ∷ []) =
    rw c.deref-l-items.ensures.value at (c.count.ensures (done
    ++ take i outs) c.loop-l.invariant.counts) in
    record { counts = subst (AreCounts c.count.new.counts) (outputs-more done outs i b) more }
