use Rattle.bbop_isa.proofs.Parted.{lines_are}
use Rattle.bbop_isa.proofs.laws.lines_are_right.Goals as goal

pub returns : goal.returns
returns c = lines_are
