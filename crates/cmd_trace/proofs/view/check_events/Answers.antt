use Rattle.cmd_trace.proofs.Common.{◌∷◌, ◌++◌, [], arith}
use Rattle.std.proofs.lemmas.Result.{err_from_is_err_and}
use Rattle.cmd_trace.specs.Opened.{event_of}
use Rattle.cmd_trace.proofs.Checking.{events_end, events_fault, events_more, all_left}
use Rattle.cmd_trace.proofs.view.check_events.Goals as goal

pub loop-k-init : goal.loop-k-init
loop-k-init c = record {
  within = omega arith;
  front = [];
  so_far = all_left c.args.count c.args.g c.args.start c.args.bytes.now;
}

pub returns-in_err-_event-clause-err : goal.returns-in_err-_event-clause-err
returns-in_err-_event-clause-err c =
    let p = err_from_is_err_and c.from_residual.result c.from_residual.ensures.1 in
    let k = c.loop-k in
    rw (p.1, p.2) (events_fault c.args.count k._k c.args.g k.invariant.front k.at
    c.args.bytes.now c.in_err-_event.field-0.0 _ c.loop-k-test.true c.in_err-_event.ensures.gives
    k.invariant.so_far)

pub loop-k-preserved : goal.loop-k-preserved
loop-k-preserved c =
    let k = c.loop-k in
    let event = event_of c.in_ok-_event._event in
    record {
      within = c.in_ok-_event.ensures.within;
      front = k.invariant.front ++ event ∷ [];
      so_far = events_more c.args.count k._k c.args.g k.invariant.front k.at c.args.bytes.now event
          c.in_ok-_event.next _ c.loop-k-test.true c.in_ok-_event.ensures.gives
          k.invariant.so_far;
    }

pub returns-clause-ok : goal.returns-clause-ok
returns-clause-ok c =
    let k = c.loop-k in (
      k.invariant.front,
      events_end c.args.count k._k c.args.g k.invariant.front k.at c.args.bytes.now _
          c.loop-k-test.false k.invariant.so_far,
    )
