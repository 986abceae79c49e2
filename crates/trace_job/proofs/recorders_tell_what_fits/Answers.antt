use Rattle.trace_job.proofs.Logs.{tells_what_fits}
use Rattle.trace_job.proofs.recorders_tell_what_fits.Goals as goal

pub returns : goal.returns
returns c = tells_what_fits
