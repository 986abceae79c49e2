use Rattle.transpose_unit.proofs.Held.{writes_hold}
use Rattle.transpose_unit.proofs.write.writes_hold.Goals as goal

pub returns : goal.returns
returns c = writes_hold
