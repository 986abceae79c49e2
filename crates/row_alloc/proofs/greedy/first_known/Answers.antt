use Rattle.row_alloc.proofs.Common.{◌∙◌, ap, arith}
use Rattle.row_alloc.specs.Known.{Serves, known_at}
use Rattle.row_alloc.proofs.Chosen.{first_least, first_same, none_more}
use Rattle.row_alloc.proofs.greedy.first_known.Goals as goal

pub returns-then-serves-clause-first : goal.returns-then-serves-clause-first
returns-then-serves-clause-first c =
    let serves = rw c.sequence-cmds.ensures at c.serves.ensures.exact.0 c.if-serves.true in
    λ k first. c.sequence-cmds.ensures ∙ ap known_at (first_same c.args.m.now c.args.outs.now
    c.loop-k.k serves c.loop-k.invariant k first)

pub returns-then-serves-clause-least : goal.returns-then-serves-clause-least
returns-then-serves-clause-least c =
    let serves = rw c.sequence-cmds.ensures at c.serves.ensures.exact.0 c.if-serves.true in
    rw c.sequence-cmds.ensures (first_least c.args.m.now c.args.outs.now c.loop-k.k serves
    c.loop-k.invariant)

pub loop-k-preserved : goal.loop-k-preserved
loop-k-preserved c = none_more (λ i. Serves c.args.m.now c.args.outs.now (known_at i)) c.loop-k.k
    c.loop-k.invariant (λ s.
    let t = c.serves.ensures.exact.1 (rw c.sequence-cmds.ensures s) in cc)

pub returns-clause-none : goal.returns-clause-none
returns-clause-none c = λ k l s. c.loop-k.invariant k (omega (arith, l, c.loop-k-test.false)) s
