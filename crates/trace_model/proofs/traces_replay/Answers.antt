use Rattle.trace_model.proofs.Legal.{events_are_legal}
use Rattle.trace_model.proofs.Scripts.{replay_is_script, script_is_trace, table_is_written}
use Rattle.trace_model.proofs.traces_replay.Goals as goal

pub returns : goal.returns
returns c = record {
  events = events_are_legal;
  tables = table_is_written;
  replays = replay_is_script;
  traces = script_is_trace;
}
