use Rattle.op_rules.proofs.Ops as m
use Rattle.op_rules.proofs.laws.rules_are_met.Goals as goal

pub returns : goal.returns
returns c = m.rules_are_met
