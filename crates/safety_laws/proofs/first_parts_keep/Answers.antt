use Rattle.safety_laws.proofs.Safe.{first_parts_keep}
use Rattle.safety_laws.proofs.first_parts_keep.Goals as goal

pub returns : goal.returns
returns c = first_parts_keep
