use Rattle.trace_model.proofs.Files.{files_are_exact}
use Rattle.trace_model.proofs.traces_are_exact.Goals as goal

pub returns : goal.returns
returns c = files_are_exact
