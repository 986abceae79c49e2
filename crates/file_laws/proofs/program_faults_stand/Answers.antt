use Rattle.file_laws.proofs.Programs.{faults_stand}
use Rattle.file_laws.proofs.program_faults_stand.Goals as goal

pub returns : goal.returns
returns c = faults_stand
