use Rattle.row_alloc.proofs.HeldChecked.{held-nothing}
use Rattle.row_alloc.proofs.held.check_body.Goals as goal

pub returns-clause-does : goal.returns-clause-does
returns-clause-does c = λ t. held-nothing c.args.m.now c.args.outs.now c.args.cmds.now
    (c.check_held.ensures.does t)
