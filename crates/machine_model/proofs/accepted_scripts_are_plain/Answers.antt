use Rattle.machine_model.proofs.Accepted.{accepted_is_plain}
use Rattle.machine_model.proofs.accepted_scripts_are_plain.Goals as goal

pub returns : goal.returns
returns c = record { plain = accepted_is_plain }
