use Rattle.op_rules.proofs.Few as m
use Rattle.op_rules.proofs.laws.scratch_is_small.Goals as goal

pub returns : goal.returns
returns c = m.scratch_is_small
