use Rattle.guard_model.proofs.Tripled as tripled
use Rattle.guard_model.proofs.strangers_are_first.Goals as goal

pub returns : goal.returns
returns c = tripled.strangers_are_first
