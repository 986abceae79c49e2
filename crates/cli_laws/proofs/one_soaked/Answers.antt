use Rattle.cli_laws.proofs.Soaks.{one_soaked}
use Rattle.cli_laws.proofs.one_soaked.Goals as goal

pub returns : goal.returns
returns c = one_soaked
