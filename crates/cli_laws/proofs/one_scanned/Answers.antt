use Rattle.cli_laws.proofs.Scans.{one_answered, one_scanned}
use Rattle.cli_laws.proofs.one_scanned.Goals as goal

pub returns : goal.returns
returns c = record { counted = one_scanned; told = one_answered }
