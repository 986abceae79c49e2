use Rattle.verify_job.proofs.Apart.{all_alike}
use Rattle.verify_job.proofs.laws.findings_are_alike.Goals as goal

pub returns : goal.returns
returns c = all_alike
