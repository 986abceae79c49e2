use Rattle.simdram_cli.proofs.Unique as unique
use Rattle.simdram_cli.proofs.top.one_job.Goals as goal

pub returns : goal.returns
returns c = unique.one_job
