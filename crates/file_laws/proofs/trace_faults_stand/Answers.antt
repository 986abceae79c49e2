use Rattle.file_laws.proofs.Traces.{faults_stand}
use Rattle.file_laws.proofs.trace_faults_stand.Goals as goal

pub returns : goal.returns
returns c = faults_stand
