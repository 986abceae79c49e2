use Rattle.op_text.proofs.Unique as m
use Rattle.op_text.proofs.laws.spelled_once.Goals as goal

pub returns : goal.returns
returns c = m.spelled_once
