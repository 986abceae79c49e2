use Rattle.bbop_isa.proofs.Numbered.{go_by_lines}
use Rattle.bbop_isa.proofs.laws.scripts_go_by_lines.Goals as goal

pub returns : goal.returns
returns c = go_by_lines
