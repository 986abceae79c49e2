use Rattle.safety_laws.proofs.Safe.{stopped_waves_are_safe}
use Rattle.safety_laws.proofs.stopped_waves_are_safe.Goals as goal

pub returns : goal.returns
returns c = stopped_waves_are_safe
