use Rattle.cli_laws.proofs.Unique as unique
use Rattle.cli_laws.proofs.one_executed.Goals as goal

pub returns : goal.returns
returns c = unique.one_executed
