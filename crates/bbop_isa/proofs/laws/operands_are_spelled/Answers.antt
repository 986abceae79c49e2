use Rattle.bbop_isa.proofs.Spelling.{spelled_both}
use Rattle.bbop_isa.proofs.laws.operands_are_spelled.Goals as goal

pub returns : goal.returns
returns c = spelled_both
