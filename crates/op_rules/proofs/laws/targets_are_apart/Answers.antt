use Rattle.op_rules.proofs.Apart as m
use Rattle.op_rules.proofs.laws.targets_are_apart.Goals as goal

pub returns : goal.returns
returns c = m.targets_are_apart
