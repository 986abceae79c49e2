use Rattle.cli_model.proofs.Ending as ending
use Rattle.cli_model.proofs.first_decides.Goals as goal

pub returns : goal.returns
returns c = ending.first_decides
