use Rattle.op_rules.proofs.Holding as m
use Rattle.op_rules.proofs.laws.kinds_are_held.Goals as goal

pub returns-clause-statement : goal.returns-clause-statement
returns-clause-statement c = m.kinds_are_kept

pub returns-clause-op : goal.returns-clause-op
returns-clause-op c = m.kinds_are_held
