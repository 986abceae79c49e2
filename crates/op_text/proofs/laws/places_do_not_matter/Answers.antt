use Rattle.op_text.proofs.Places as m
use Rattle.op_text.proofs.laws.places_do_not_matter.Goals as goal

pub returns : goal.returns
returns c = m.places_do_not_matter
