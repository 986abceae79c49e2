use Rattle.row_alloc.proofs.Common.{◌≡◌, arith, ◌+◌, ◌-◌}
use Rattle.row_alloc.proofs.pieces.arranged.Goals as goal

pub returns-clause-order : goal.returns-clause-order
returns-clause-order c =
    let place : c.from.result + 1 + c.args.k - c.args.m.now.inputs - 1 ≡ c.args.k =
    omega (arith, c.from.ensures, c.inputs.ensures.inputs) in
    rw (c.node.ensures, place) at c.arrange.ensures.order
