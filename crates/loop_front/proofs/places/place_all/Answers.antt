use Rattle.loop_front.proofs.Common.{ap, ◌∙◌, arith, set, get_or}
use Rattle.loop_front.specs.Front.{placed}
use Rattle.loop_front.proofs.Built.{change_one, change_all}
use Rattle.loop_front.proofs.places.place_all.Goals as goal

pub loop-k-preserved : goal.loop-k-preserved
loop-k-preserved c =
    let f = placed c.args.subs.now in
    let k = c.loop-k.k in
    let old = c.args.places.now.items in
    let now = c.loop-k.places.items in
    let p = c.index.result.now in
    ap (set now k) (c.placed.ensures ∙ ap f c.index.ensures)
    ∙ ap (λ xs. set xs k (f (get_or xs k p))) c.loop-k.invariant
    ∙ change_one f k old p (omega (arith, c.loop-k-test.true, c.len-k-end.ensures))

pub returns : goal.returns
returns c = c.loop-k.invariant ∙ change_all (placed c.args.subs.now) c.loop-k.k c.args.places.now.items
    (omega (arith, c.loop-k-test.false, c.len-k-end.ensures))
