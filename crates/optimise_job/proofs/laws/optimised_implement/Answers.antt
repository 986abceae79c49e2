use Rattle.optimise_job.proofs.Implemented.{still_implement}
use Rattle.optimise_job.proofs.laws.optimised_implement.Goals as goal

pub returns : goal.returns
returns c = still_implement
