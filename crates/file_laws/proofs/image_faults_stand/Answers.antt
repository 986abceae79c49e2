use Rattle.file_laws.proofs.Images as m
use Rattle.file_laws.proofs.image_faults_stand.Goals as goal

pub returns : goal.returns
returns c = m.faults_stand
