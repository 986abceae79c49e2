use Rattle.trace_model.proofs.Records.{keeps_what_fits, fitting_are_few}
use Rattle.trace_model.proofs.recorders_keep_what_fits.Goals as goal

pub returns : goal.returns
returns c = record { keeps = keeps_what_fits; few = fitting_are_few }
