use Rattle.cli_model.proofs.Losing as losing
use Rattle.cli_model.proofs.one_bank_is_lost.Goals as goal

pub returns : goal.returns
returns c = losing.one_bank_is_lost
