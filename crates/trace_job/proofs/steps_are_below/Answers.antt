use Rattle.trace_job.proofs.Going as going
use Rattle.trace_job.proofs.steps_are_below.Goals as goal

pub returns : goal.returns
returns c = going.steps_are_below
