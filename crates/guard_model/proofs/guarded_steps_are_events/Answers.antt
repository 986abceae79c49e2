use Rattle.guard_model.proofs.Pieces.{step_is_events, step_is_counted}
use Rattle.guard_model.proofs.guarded_steps_are_events.Goals as goal

pub returns : goal.returns
returns c = record { events = step_is_events; counted = step_is_counted }
