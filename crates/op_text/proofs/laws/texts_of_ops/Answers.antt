use Rattle.op_text.proofs.Meeting as m
use Rattle.op_text.proofs.laws.texts_of_ops.Goals as goal

pub returns : goal.returns
returns c = m.texts_of_ops
