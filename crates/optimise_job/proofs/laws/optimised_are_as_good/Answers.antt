use Rattle.optimise_job.proofs.AsGood.{all_good}
use Rattle.optimise_job.proofs.laws.optimised_are_as_good.Goals as goal

pub returns : goal.returns
returns c = all_good
