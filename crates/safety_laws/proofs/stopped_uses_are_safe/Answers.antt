use Rattle.safety_laws.proofs.Single.{stopped_uses_are_safe}
use Rattle.safety_laws.proofs.stopped_uses_are_safe.Goals as goal

pub returns : goal.returns
returns c = stopped_uses_are_safe
