use Rattle.bdd.proofs.Walking.{step-high, step-low}
use Rattle.bdd.proofs.path.taken.Goals as goal

pub returns-then-value-clause-left : goal.returns-then-value-clause-left
returns-then-value-clause-left c = rw (c.if-value.true, c.complement_if.ensures)
    (step-high c.args.nodes.now c.args.e c.requires.nodes c.requires.named c.requires.some)

pub returns-else-value-clause-left : goal.returns-else-value-clause-left
returns-else-value-clause-left c = rw (c.if-value.false, c.complement_if-else-value.ensures, c.plain.ensures)
    (step-low c.args.nodes.now c.args.e c.requires.nodes c.requires.named c.requires.some)
