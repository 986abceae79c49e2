use Rattle.op_rules.proofs.Holding as m
use Rattle.op_rules.proofs.laws.statements_meet.Goals as goal

pub returns : goal.returns
returns c = m.statements_meet
