use Rattle.cmd_trace.proofs.Common.{◌≡◌, ◌+◌, ◌-◌, ◌^◌, ◌<◌, ◌≤◌, ◌++◌, List, length, Event, Kept}
use Rattle.cmd_trace.proofs.Common.{Did, events_at}
use Rattle.cmd_trace.specs.Tape.{events_read}
use Rattle.cmd_trace.proofs.Replaying.{Left}
use Rattle.cmd_trace.proofs.replay.do_events.Given as goal

-- the events so far are done, and those that are left come to all
abbrev pub invariant-loop-k : goal.invariant-loop-k
invariant-loop-k g l = record {
  within : l.at ≤ length l.bytes;
  borrow : g.D.Dram.borrow l.dram ≡ g.D.Dram.borrow l.initial.dram;
  kept : Kept (g.D.Dram.view l.initial.dram) (g.D.Dram.view l.dram);
  stage : length l.stage ≡ length l.initial.stage;
  aap : (g.D.Dram.view l.dram).counters.aap < 2 ^ 62 + l._k;
  ap : (g.D.Dram.view l.dram).counters.ap < 2 ^ 62 + l._k;
  writes : (g.D.Dram.view l.dram).counters.writes < 2 ^ 62 + l._k;
  whole : Left (length l.bytes) (l.fn.count - l._k) l.fn.g l.at l.bytes;
  done : List Event;
  did : Did done (g.D.Dram.view l.initial.dram) (g.D.Dram.view l.dram);
  all : done ++ events_read (events_at (l.fn.count - l._k) l.fn.g l.at l.bytes)
      ≡ events_read (events_at l.fn.count l.fn.g l.fn.start l.bytes);
}
