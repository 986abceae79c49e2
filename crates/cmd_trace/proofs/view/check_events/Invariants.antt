use Rattle.cmd_trace.proofs.Common.{◌≡◌, ◌-◌, ◌≤◌, List, length, Event, events_at}
use Rattle.cmd_trace.proofs.Checking.{with_front}
use Rattle.cmd_trace.proofs.view.check_events.Given as goal

-- the events so far, with those that are left
abbrev pub invariant-loop-k : goal.invariant-loop-k
invariant-loop-k l = record {
  within : l.at ≤ length l.bytes;
  front : List Event;
  so_far : with_front front (events_at (l.fn.count - l._k) l.fn.g l.at l.bytes)
      ≡ events_at l.fn.count l.fn.g l.fn.start l.bytes;
}
