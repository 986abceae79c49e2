use Rattle.op_text.proofs.Operations as m
use Rattle.op_text.proofs.laws.first_settles.Goals as goal

pub returns : goal.returns
returns c = m.first_settles
