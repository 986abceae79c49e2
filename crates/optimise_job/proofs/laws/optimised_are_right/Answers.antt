use Rattle.optimise_job.proofs.Right.{all_right}
use Rattle.optimise_job.proofs.laws.optimised_are_right.Goals as goal

pub returns : goal.returns
returns c = all_right
