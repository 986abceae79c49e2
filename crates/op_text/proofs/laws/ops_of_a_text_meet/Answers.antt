use Rattle.op_text.proofs.Meeting as m
use Rattle.op_text.proofs.laws.ops_of_a_text_meet.Goals as goal

pub returns : goal.returns
returns c = m.ops_of_a_text_meet
