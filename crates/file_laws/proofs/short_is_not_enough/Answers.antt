use Rattle.file_laws.proofs.Shorts.{not_enough}
use Rattle.file_laws.proofs.short_is_not_enough.Goals as goal

pub returns : goal.returns
returns c = not_enough
