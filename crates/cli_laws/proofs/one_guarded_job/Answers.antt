use Rattle.cli_laws.proofs.Unique as unique
use Rattle.cli_laws.proofs.one_guarded_job.Goals as goal

pub returns : goal.returns
returns c = unique.one_guarded_job
