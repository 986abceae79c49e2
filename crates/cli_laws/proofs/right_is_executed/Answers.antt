use Rattle.cli_laws.proofs.Verified.{right_is_executed}
use Rattle.cli_laws.proofs.right_is_executed.Goals as goal

pub returns : goal.returns
returns c = right_is_executed
