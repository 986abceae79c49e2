use Rattle.block_lower.proofs.Common.{arith, IfOk-weaker, steps_of}
use Rattle.block_lower.proofs.Facts.{Given}
use Rattle.block_lower.proofs.InRows.{body-found}
use Rattle.block_lower.proofs.Making.{inputs-few}
use Rattle.block_lower.proofs.OneCell.{chosen-lowered, chosen-program}
use Rattle.block_lower.proofs.lower.lower_block.Goals as goal

pub block_loop-requires : goal.block_loop-requires
block_loop-requires c = (c.in_ok-block.ensures.is c.args.states.now).named

pub returns-clause-form : goal.returns-clause-form
returns-clause-form c =
    let few = inputs-few c.args.lets.now c.args.assigns.now c.requires.meets in
    let g : Given _ _ _ _ = record { meets = c.requires.meets; placed = c.requires.placed } in
    let is = c.in_ok-block.ensures.is c.args.states.now in
    let found = body-found g is (omega (arith, few)) c.in_ok-block.ensures.found in
    IfOk-weaker c.block_loop.result _ _ (λ p t.
    chosen-program g is (omega (arith, few)) found (steps_of p) t) c.block_loop.ensures

pub returns-clause-lowered : goal.returns-clause-lowered
returns-clause-lowered c =
    let few = inputs-few c.args.lets.now c.args.assigns.now c.requires.meets in
    let g : Given _ _ _ _ = record { meets = c.requires.meets; placed = c.requires.placed } in
    let is = c.in_ok-block.ensures.is c.args.states.now in
    let found = body-found g is (omega (arith, few)) c.in_ok-block.ensures.found in
    IfOk-weaker c.block_loop.result _ _ (λ p t.
    chosen-lowered g is (omega (arith, few)) found (steps_of p) t) c.block_loop.ensures
