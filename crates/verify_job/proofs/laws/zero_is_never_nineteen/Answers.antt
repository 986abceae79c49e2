use Rattle.verify_job.proofs.Apart.{zero_or_unknown}
use Rattle.verify_job.proofs.laws.zero_is_never_nineteen.Goals as goal

pub returns : goal.returns
returns c = zero_or_unknown
