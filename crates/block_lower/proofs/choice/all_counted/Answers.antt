use Rattle.block_lower.proofs.Common.{subst, IfSome}
use Rattle.block_lower.specs.Choice.{IsCounted}
use Rattle.block_lower.proofs.Counting.{next-counted, next-dropped, told-none}
use Rattle.block_lower.proofs.choice.all_counted.Goals.{in-Some+in_ok-keep, in_default}
use Rattle.block_lower.proofs.choice.all_counted.Goals as goal

pub loop-offer-preserved : goal.loop-offer-preserved
loop-offer-preserved c =
    let g = c.args.first.now.mig in
    let outs = c.args.first.now.outs.items in
    let cs = c.loop-offer.others.items in
    elim c.match-branch-2.branch [
      | in-Some+in_ok-keep w ↦ rw (w.others-is, w.in_ok-keep.ensures)
          (next-counted c.args.reads.now c.args.writes.now g outs c.args.offers.now
          c.loop-offer.offer-index c.offer-item.result cs w.in-Some.choice c.loop-offer-test.true
          c.offer-item.is c.loop-offer.invariant
          (subst (λ o. IfSome o (IsCounted c.args.reads.now c.args.writes.now g outs
          c.offer-item.result.sketch)) w.in-Some.is c.in_ok-choice.ensures.some))
      | in_default w ↦ rw w.others-is
          (next-dropped c.args.reads.now c.args.writes.now g outs c.args.offers.now
          c.loop-offer.offer-index c.offer-item.result cs c.loop-offer-test.true
          c.offer-item.is c.loop-offer.invariant (told-none c.in_ok-choice.field-0 c.in_ok-choice.ensures.none
          w.in_default.not-Some))
    ]
