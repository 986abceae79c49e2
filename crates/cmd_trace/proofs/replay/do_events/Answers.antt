use Rattle.cmd_trace.proofs.Common.{◌≡◌, ◌∷◌, ◌++◌, [], List, ap, arith, subst, ◌∙◌, sym, length}
use Rattle.cmd_trace.proofs.Common.{append_assoc, append-nil, ◌+◌, ◌-◌, Counters, Geometry, Event}
use Rattle.cmd_trace.proofs.Common.{Did, IsEvent, events_at}
use Rattle.dram_model.proofs.EventLaws.{Did-more, Kept-more, counted-bound}
use Rattle.cmd_trace.specs.Opened.{event_of}
use Rattle.cmd_trace.specs.Tape.{events_read}
use Rattle.cmd_trace.proofs.Replaying.{event_fits, left_more, no_fault, none_left, read_more}
use Rattle.cmd_trace.proofs.Replaying.{on_err, stopped}
use Rattle.cmd_trace.proofs.replay.do_events.Goals as goal

pub unreachable-requires : goal.unreachable-requires
unreachable-requires g c = no_fault (length c.args.bytes.now) c.args.count c.loop-k._k c.args.g
    c.loop-k.at c.args.bytes.now c.in-Err.field-0 c.loop-k-test.true c.in-Err.ensures.gives
    c.loop-k.invariant.whole

pub do_event-requires-clause-event : goal.do_event-requires-clause-event
do_event-requires-clause-event g c =
    let event = event_of c.in-Ok.found.0 in
    subst (λ (x : Geometry). IsEvent x event)
    (sym (c.loop-k.invariant.kept.geometry ∙ c.requires.geometry))
    (event_fits c.args.g c.loop-k.at c.args.bytes.now event c.in-Ok.found.1
    (λ i. omega (arith, c.type_inv.bytes i)) c.in-Ok.ensures.gives)

pub returns-in_err-do_event-clause-stopped : goal.returns-in_err-do_event-clause-stopped
returns-in_err-do_event-clause-stopped g c =
    let k = c.loop-k in
    let D = g.D.Dram in
    let event = event_of c.in-Ok.found.0 in
    let all = events_read (events_at c.args.count c.args.g c.args.start c.args.bytes.now) in
    let left = events_read (events_at (c.args.count - (k._k + 1)) c.args.g c.in-Ok.found.1
    c.args.bytes.now) in
    let one = read_more (length c.args.bytes.now) c.args.count k._k c.args.g k.at c.args.bytes.now
    event c.in-Ok.found.1 c.loop-k-test.true c.in-Ok.ensures.gives k.invariant.whole in
    let is : k.invariant.done ++ event ∷ left ≡ all =
    ap (λ (es : List Event). k.invariant.done ++ es) (sym one) ∙ k.invariant.all in
    on_err c.from_residual.result (stopped k.invariant.done left all event
    (D.view c.args.dram.now) (D.view k.dram) (D.view c.do_event.new.dram) is
    k.invariant.did k.invariant.kept c.in_err-do_event.ensures.failed
    c.in_err-do_event.ensures.no_event)

pub loop-k-preserved : goal.loop-k-preserved
loop-k-preserved g c =
    let k = c.loop-k in
    let D = g.D.Dram in
    let first = D.view c.args.dram.now in
    let now = D.view k.dram in
    let new = D.view c.do_event.new.dram in
    let event = event_of c.in-Ok.found.0 in
    let did = c.in_ok-do_event.ensures.did in
    let bound = counted-bound (event ∷ []) now.counters in
    let one = read_more (length c.args.bytes.now) c.args.count k._k c.args.g k.at c.args.bytes.now
    event c.in-Ok.found.1 c.loop-k-test.true c.in-Ok.ensures.gives k.invariant.whole in
    let left = events_read (events_at (c.args.count - (k._k + 1)) c.args.g c.in-Ok.found.1
    c.args.bytes.now) in
    let aap = ap (λ (x : Counters). x.aap) did.counters in
    let ap_is = ap (λ (x : Counters). x.ap) did.counters in
    let writes = ap (λ (x : Counters). x.writes) did.counters in
    record {
      within = c.in-Ok.ensures.within;
      borrow = c.in_ok-do_event.ensures.borrow ∙ k.invariant.borrow;
      kept = Kept-more first now new k.invariant.kept c.in_ok-do_event.ensures.kept;
      stage = c.in_ok-do_event.ensures.stage ∙ k.invariant.stage;
      aap = omega (arith, aap, bound.0, k.invariant.aap);
      ap = omega (arith, ap_is, bound.1, k.invariant.ap);
      writes = omega (arith, writes, bound.2, k.invariant.writes);
      whole = left_more (length c.args.bytes.now) c.args.count k._k c.args.g k.at
          c.args.bytes.now event c.in-Ok.found.1 c.loop-k-test.true c.in-Ok.ensures.gives
          k.invariant.whole;
      done = k.invariant.done ++ event ∷ [];
      did = Did-more k.invariant.done (event ∷ []) first now new k.invariant.did did;
      all = append_assoc k.invariant.done (event ∷ []) left
          ∙ ap (λ (es : List Event). k.invariant.done ++ es) (sym one) ∙ k.invariant.all;
    }

pub returns-clause-did : goal.returns-clause-did
returns-clause-did g c =
    let k = c.loop-k in
    let D = g.D.Dram in
    let none = none_left c.args.count k._k c.args.g k.at c.args.bytes.now c.loop-k-test.false in
    subst (λ (es : List Event). Did es (D.view c.args.dram.now) (D.view k.dram))
    (sym (append-nil k.invariant.done)
    ∙ ap (λ (es : List Event). k.invariant.done ++ es) (sym none) ∙ k.invariant.all)
    k.invariant.did
