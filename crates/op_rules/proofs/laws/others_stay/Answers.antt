use Rattle.op_rules.proofs.Holding as m
use Rattle.op_rules.proofs.laws.others_stay.Goals as goal

pub returns : goal.returns
returns c = m.others_stay
