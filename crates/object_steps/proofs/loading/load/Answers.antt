use Rattle.object_steps.proofs.Common.{◌∙◌, ◌+◌, ◌*◌, ap, subst, List, refl, Kept-same, Event}
use Rattle.object_steps.proofs.Common.{Write, Did, StoppedWithin, Object, Load, segments, refusal}
use Rattle.object_steps.proofs.Common.{counts_for, load_events, own_events}
use Rattle.dram_model.specs.Elements.{padded_to, row_bits}
use Rattle.machine_model.specs.Columns.{object_size}
use Rattle.object_steps.proofs.Done.{did_all, did_nothing, replies_done, replies_refused}
use Rattle.object_steps.proofs.Done.{stopped_all}
use Rattle.object_steps.proofs.Filled.{on_err}
use Rattle.object_steps.proofs.Rises.{few_banks, few_events, few_rows, loads_are}
use Rattle.object_steps.proofs.loading.load.Goals as goal

pub returns-in-Err-clause-borrow : goal.returns-in-Err-clause-borrow
returns-in-Err-clause-borrow g c = refl

pub returns-in-Err-clause-kept : goal.returns-in-Err-clause-kept
returns-in-Err-clause-kept g c = Kept-same (g.D.Dram.view c.args.dram.now)

pub returns-in-Err-clause-stage : goal.returns-in-Err-clause-stage
returns-in-Err-clause-stage g c = refl

pub returns-in_err-write_object-in-Ok-clause-borrow :
    goal.returns-in_err-write_object-in-Ok-clause-borrow
returns-in_err-write_object-in-Ok-clause-borrow g c = c.write_object.ensures.borrow

pub returns-in_err-write_object-in-Ok-clause-kept :
    goal.returns-in_err-write_object-in-Ok-clause-kept
returns-in_err-write_object-in-Ok-clause-kept g c = c.write_object.ensures.kept

pub returns-in_ok-write_object-in-Ok-clause-borrow :
    goal.returns-in_ok-write_object-in-Ok-clause-borrow
returns-in_ok-write_object-in-Ok-clause-borrow g c = c.write_object.ensures.borrow

pub returns-in_ok-write_object-in-Ok-clause-kept : goal.returns-in_ok-write_object-in-Ok-clause-kept
returns-in_ok-write_object-in-Ok-clause-kept g c = c.write_object.ensures.kept

pub returns-in_err-write_object-in-Ok-clause-allowed :
    goal.returns-in_err-write_object-in-Ok-clause-allowed
returns-in_err-write_object-in-Ok-clause-allowed g c = λ operations.
    on_err c.from_residual.result (c.in-Ok.ensures.allowed operations)

pub returns-in_err-write_object-in-Ok-clause-stopped :
    goal.returns-in_err-write_object-in-Ok-clause-stopped
returns-in_err-write_object-in-Ok-clause-stopped g c = λ operations.
    let instr = Load c.args.place.now c.args.values.now in
    let pairs = c.args.table.now.pairs in
    let old = g.D.Dram.view c.args.dram.now in
    let new = g.D.Dram.view c.write_object.new.dram in
    on_err c.from_residual.result (stopped_all (refusal c.args.g operations pairs instr)
    (own_events c.args.g pairs instr) old.banks new.banks (c.in-Ok.ensures.allowed operations)
    (subst (λ (es : List Event). StoppedWithin 0 es old.banks new.banks)
    (loads_are c.args.g c.in-Ok.o c.args.values.now c.in-Ok.ensures.count
    ∙ ap (λ (o : Object). load_events c.args.g o c.args.values.now) c.in-Ok.ensures.object)
    c.in_err-write_object-in-Ok.ensures.stopped))

pub returns-in-Err-clause-reply : goal.returns-in-Err-clause-reply
returns-in-Err-clause-reply g c = λ operations.
    let instr = Load c.args.place.now c.args.values.now in
    let pairs = c.args.table.now.pairs in
    replies_refused (refusal c.args.g operations pairs instr) c.in-Err.why
    (counts_for c.args.g operations pairs instr) (c.in-Err.ensures.refused operations)

pub returns-in-Err-clause-did : goal.returns-in-Err-clause-did
returns-in-Err-clause-did g c = λ operations.
    let instr = Load c.args.place.now c.args.values.now in
    let pairs = c.args.table.now.pairs in
    did_nothing (refusal c.args.g operations pairs instr) c.in-Err.why
    (own_events c.args.g pairs instr) (g.D.Dram.view c.args.dram.now)
    (c.in-Err.ensures.refused operations)

pub returns-in_ok-write_object-in-Ok-clause-reply :
    goal.returns-in_ok-write_object-in-Ok-clause-reply
returns-in_ok-write_object-in-Ok-clause-reply g c = λ operations.
    let instr = Load c.args.place.now c.args.values.now in
    let pairs = c.args.table.now.pairs in
    replies_done (refusal c.args.g operations pairs instr) (record { aap = 0; ap = 0 })
    (counts_for c.args.g operations pairs instr) (c.in-Ok.ensures.allowed operations) refl

pub returns-in_ok-write_object-in-Ok-clause-did : goal.returns-in_ok-write_object-in-Ok-clause-did
returns-in_ok-write_object-in-Ok-clause-did g c = λ operations.
    let instr = Load c.args.place.now c.args.values.now in
    let pairs = c.args.table.now.pairs in
    let old = g.D.Dram.view c.args.dram.now in
    let new = g.D.Dram.view c.write_object.new.dram in
    did_all (refusal c.args.g operations pairs instr) (own_events c.args.g pairs instr) old new
    (c.in-Ok.ensures.allowed operations) (subst (λ (es : List Event). Did es old new)
    (loads_are c.args.g c.in-Ok.o c.args.values.now c.in-Ok.ensures.count
    ∙ ap (λ (o : Object). load_events c.args.g o c.args.values.now) c.in-Ok.ensures.object)
    c.in_ok-write_object-in-Ok.ensures.did)

pub returns-in_ok-write_object-in-Ok-clause-rises :
    goal.returns-in_ok-write_object-in-Ok-clause-rises
returns-in_ok-write_object-in-Ok-clause-rises g c =
    let old = g.D.Dram.view c.args.dram.now in
    let new = g.D.Dram.view c.write_object.new.dram in
    let o = c.in-Ok.o in
    let values = c.args.values.now in
    let did = subst (λ (es : List Event). Did es old new)
    (loads_are c.args.g o values c.in-Ok.ensures.count) c.in_ok-write_object-in-Ok.ensures.did in
    few_events (16 * 128) (load_events c.args.g o values) old.counters new.counters did.counters
    (few_rows (segments c.args.g o) o.width 128 (λ bank k.
    Write bank (o.base + k) (row_bits c.args.g (padded_to (object_size c.args.g o) values) bank k))
    (few_banks c.args.g o c.requires.lies.geometry c.in-Ok.ensures.fits)
    c.in-Ok.ensures.fits.narrow)
