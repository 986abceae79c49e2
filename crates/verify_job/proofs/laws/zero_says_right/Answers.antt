use Rattle.verify_job.proofs.Found.{all_right}
use Rattle.verify_job.proofs.laws.zero_says_right.Goals as goal

pub returns : goal.returns
returns c = all_right
