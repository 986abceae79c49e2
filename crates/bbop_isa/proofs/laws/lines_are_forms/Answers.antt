use Rattle.bbop_isa.proofs.Kinded.{lines_are}
use Rattle.bbop_isa.proofs.laws.lines_are_forms.Goals as goal

pub returns : goal.returns
returns c = lines_are
