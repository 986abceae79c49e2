use Rattle.object_steps.proofs.Common.{◌∙◌, ◌*◌, ap, subst, refl, Kept-same, Did, StoppedWithin}
use Rattle.object_steps.proofs.Common.{Counts, Object, segments, refusal, counts_for, fill_events}
use Rattle.object_steps.proofs.Common.{own_events}
use Rattle.bbop_isa.specs.Forms.{Fill}
use Rattle.object_steps.proofs.Done.{did_all, did_nothing, replies_done, replies_refused}
use Rattle.object_steps.proofs.Done.{stopped_all}
use Rattle.object_steps.proofs.Filled.{on_err}
use Rattle.object_steps.proofs.filling.fill.Goals as goal

pub returns-in-Err-clause-borrow : goal.returns-in-Err-clause-borrow
returns-in-Err-clause-borrow g c = refl

pub returns-in-Err-clause-kept : goal.returns-in-Err-clause-kept
returns-in-Err-clause-kept g c = Kept-same (g.D.Dram.view c.args.dram.now)

pub returns-in_err-fill_object-in-Ok-clause-borrow :
    goal.returns-in_err-fill_object-in-Ok-clause-borrow
returns-in_err-fill_object-in-Ok-clause-borrow g c = c.fill_object.ensures.borrow

pub returns-in_err-fill_object-in-Ok-clause-kept : goal.returns-in_err-fill_object-in-Ok-clause-kept
returns-in_err-fill_object-in-Ok-clause-kept g c = c.fill_object.ensures.kept

pub returns-in_ok-fill_object-in-Ok-clause-borrow :
    goal.returns-in_ok-fill_object-in-Ok-clause-borrow
returns-in_ok-fill_object-in-Ok-clause-borrow g c = c.fill_object.ensures.borrow

pub returns-in_ok-fill_object-in-Ok-clause-kept : goal.returns-in_ok-fill_object-in-Ok-clause-kept
returns-in_ok-fill_object-in-Ok-clause-kept g c = c.fill_object.ensures.kept

pub returns-in_err-fill_object-in-Ok-clause-allowed :
    goal.returns-in_err-fill_object-in-Ok-clause-allowed
returns-in_err-fill_object-in-Ok-clause-allowed g c = λ operations.
    on_err c.from_residual.result (c.in-Ok.ensures.allowed operations)

pub returns-in_err-fill_object-in-Ok-clause-stopped :
    goal.returns-in_err-fill_object-in-Ok-clause-stopped
returns-in_err-fill_object-in-Ok-clause-stopped g c = λ operations.
    let instr = Fill c.args.place.now c.args.value in
    let pairs = c.args.table.now.pairs in
    let old = g.D.Dram.view c.args.dram.now in
    let new = g.D.Dram.view c.fill_object.new.dram in
    on_err c.from_residual.result (stopped_all (refusal c.args.g operations pairs instr)
    (own_events c.args.g pairs instr) old.banks new.banks (c.in-Ok.ensures.allowed operations)
    (subst (λ (o : Object). StoppedWithin 0 (fill_events c.args.g o c.args.value) old.banks new.banks)
    c.in-Ok.ensures.object c.in_err-fill_object-in-Ok.ensures.stopped))

pub returns-in-Err-clause-reply : goal.returns-in-Err-clause-reply
returns-in-Err-clause-reply g c = λ operations.
    let instr = Fill c.args.place.now c.args.value in
    let pairs = c.args.table.now.pairs in
    replies_refused (refusal c.args.g operations pairs instr) c.in-Err.why
    (counts_for c.args.g operations pairs instr) (c.in-Err.ensures.refused operations)

pub returns-in-Err-clause-did : goal.returns-in-Err-clause-did
returns-in-Err-clause-did g c = λ operations.
    let instr = Fill c.args.place.now c.args.value in
    let pairs = c.args.table.now.pairs in
    did_nothing (refusal c.args.g operations pairs instr) c.in-Err.why
    (own_events c.args.g pairs instr) (g.D.Dram.view c.args.dram.now)
    (c.in-Err.ensures.refused operations)

pub returns-in_ok-fill_object-in-Ok-clause-reply :
    goal.returns-in_ok-fill_object-in-Ok-clause-reply
returns-in_ok-fill_object-in-Ok-clause-reply g c = λ operations.
    let instr = Fill c.args.place.now c.args.value in
    let pairs = c.args.table.now.pairs in
    replies_done (refusal c.args.g operations pairs instr) c.filling_counts.result
    (counts_for c.args.g operations pairs instr) (c.in-Ok.ensures.allowed operations)
    (c.filling_counts.ensures ∙ ap (λ (o : Object). let counts : Counts = record {
      aap = o.width * segments c.args.g o;
      ap = 0;
    } in counts) c.in-Ok.ensures.object)

pub returns-in_ok-fill_object-in-Ok-clause-did : goal.returns-in_ok-fill_object-in-Ok-clause-did
returns-in_ok-fill_object-in-Ok-clause-did g c = λ operations.
    let instr = Fill c.args.place.now c.args.value in
    let pairs = c.args.table.now.pairs in
    let old = g.D.Dram.view c.args.dram.now in
    let new = g.D.Dram.view c.fill_object.new.dram in
    did_all (refusal c.args.g operations pairs instr) (own_events c.args.g pairs instr) old new
    (c.in-Ok.ensures.allowed operations) (subst (λ (o : Object).
    Did (fill_events c.args.g o c.args.value) old new) c.in-Ok.ensures.object
    c.in_ok-fill_object-in-Ok.ensures.did)
