use Rattle.guard_model.proofs.Adding.{accepted_has_names}
use Rattle.guard_model.proofs.accepted_scripts_have_names.Goals as goal

pub returns : goal.returns
returns c = record { names = accepted_has_names }
