use Rattle.cli_laws.proofs.Replays as replays
use Rattle.cli_laws.proofs.traces_are_accepted.Goals as goal

pub returns : goal.returns
returns c = replays.traces_are_accepted
