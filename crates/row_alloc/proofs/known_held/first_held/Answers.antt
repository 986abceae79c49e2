use Rattle.row_alloc.proofs.Common.{arith}
use Rattle.row_alloc.specs.Known.{ServesHeld, held_at}
use Rattle.row_alloc.proofs.Chosen.{none_more, held_least}
use Rattle.row_alloc.proofs.known_held.first_held.Goals as goal

pub returns-then-serves-clause-least : goal.returns-then-serves-clause-least
returns-then-serves-clause-least c = rw c.sequence-cmds.ensures (held_least c.args.m.now
    c.args.outs.now c.args.enter.now c.args.leave.now c.loop-k.k c.loop-k.invariant)

pub loop-k-preserved : goal.loop-k-preserved
loop-k-preserved c = none_more
    (λ i. ServesHeld c.args.m.now c.args.outs.now c.args.enter.now c.args.leave.now (held_at i))
    c.loop-k.k c.loop-k.invariant (λ s.
    let t = c.serves.ensures.exact.1 (rw c.sequence-cmds.ensures s) in cc)

pub returns-clause-none : goal.returns-clause-none
returns-clause-none c = λ k l s. c.loop-k.invariant k (omega (arith, l, c.loop-k-test.false)) s
