use Rattle.cli_laws.proofs.Replays as replays
use Rattle.cli_laws.proofs.traces_replay.Goals as goal

pub returns : goal.returns
returns c = replays.traces_replay
