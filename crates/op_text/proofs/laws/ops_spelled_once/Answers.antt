use Rattle.op_text.proofs.Once as m
use Rattle.op_text.proofs.laws.ops_spelled_once.Goals as goal

pub returns : goal.returns
returns c = m.ops_spelled_once
