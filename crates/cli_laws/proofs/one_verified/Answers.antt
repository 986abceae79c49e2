use Rattle.cli_laws.proofs.Verified.{one_verified}
use Rattle.cli_laws.proofs.one_verified.Goals as goal

pub returns : goal.returns
returns c = one_verified
