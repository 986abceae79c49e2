use Rattle.cli_laws.proofs.Unique as unique
use Rattle.cli_laws.proofs.one_replayed.Goals as goal

pub returns : goal.returns
returns c = unique.one_replayed
