use Rattle.op_rules.proofs.Apart as m
use Rattle.op_rules.proofs.laws.names_stand_once.Goals as goal

pub returns : goal.returns
returns c = m.names_stand_once
