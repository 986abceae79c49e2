use Rattle.guard_model.proofs.FlipLines as lines
use Rattle.guard_model.proofs.flips_go_by_lines.Goals as goal

pub returns : goal.returns
returns c = lines.flips_go_by_lines
