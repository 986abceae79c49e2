use Rattle.bbop_isa.proofs.Kinded as m
use Rattle.bbop_isa.proofs.laws.lines_are_wrong.Goals as goal

pub returns : goal.returns
returns c = m.lines_are_wrong
