use Rattle.cli_laws.proofs.Faults as faults
use Rattle.cli_laws.proofs.faults_spare_rows.Goals as goal

pub returns : goal.returns
returns c = faults.faults_spare_rows
