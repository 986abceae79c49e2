use Rattle.simdram_cli.proofs.Common.{ap, sym, ◌∙◌, err_from_is_err_and, found_in, geometry_of}
use Rattle.simdram_cli.proofs.Common.{world}
use Rattle.simdram_cli.specs.Inputs.{image_found}
use Rattle.simdram_cli.proofs.Replaying.{events_done, events_failed, file_is, reads_failed}
use Rattle.simdram_cli.proofs.Replaying.{reads_still, rows_read, rows_unopened}
use Rattle.simdram_cli.proofs.Stores.{at_err, at_ok}
use Rattle.std.proofs.Common.{[], subst}
use Rattle.dram_model.specs.declared.geometry.Geometry.{Geometry}
use Rattle.dram_model.specs.Chip.{after}
use Rattle.transpose_unit.specs.Stopped.{StoppedWithin}
use Rattle.simdram_cli.proofs.replay.replay_rows.Goals as goal

pub returns-in_err-machine-clause-goes : goal.returns-in_err-machine-clause-goes
returns-in_err-machine-clause-goes g c files sink =
    let p = err_from_is_err_and c.from_residual.result c.from_residual.ensures.1 in
    rw (p.1, p.2) (rows_unopened c.args.trace.now (image_found (found_in c.args.image)) _ (world files sink (g.D.Dram.view c.args.chip.now))
    (world files sink (g.D.Dram.view c.open.new.chip)) (c.in_err-machine.ensures.goes files sink))

pub image_with-requires-clause-room : goal.image_with-requires-clause-room
image_with-requires-clause-room g c =
    reads_still c.args.trace.now.events (image_found (found_in c.args.image))
    (g.D.Dram.view c.open.new.chip) (g.D.Dram.view c.replay_events.new.dram)
    c.in_ok-machine.ensures.opened
    (at_ok c.replay_events.result (sym c.is_err.ensures.value ∙ c.if-is_err.false)
    c.replay_events.ensures.did)

pub returns-then-is_err-clause-goes : goal.returns-then-is_err-clause-goes
returns-then-is_err-clause-goes g c files sink =
    let before = g.D.Dram.view c.args.chip.now in
    let a = g.D.Dram.view c.open.new.chip in
    let b = g.D.Dram.view c.replay_events.new.dram in
    events_failed c.args.trace.now (image_found (found_in c.args.image)) files sink before a b
    (c.in_ok-machine.ensures.goes files sink) c.replay_events.ensures.kept.faults
    c.in_ok-machine.ensures.opened
    (at_err c.replay_events.result (sym c.is_err.ensures.value ∙ c.if-is_err.true)
    c.replay_events.ensures.stopped)

pub returns-then-is_err-2-clause-goes : goal.returns-then-is_err-2-clause-goes
returns-then-is_err-2-clause-goes g c files sink =
    let before = g.D.Dram.view c.args.chip.now in
    let a = g.D.Dram.view c.open.new.chip in
    let b = g.D.Dram.view c.replay_events.new.dram in
    let last = g.D.Dram.view c.image_with.new.dram in
    let bad = sym c.is_err-2.ensures.value ∙ c.if-is_err-2.true in
    reads_failed c.args.trace.now (image_found (found_in c.args.image)) files sink before a b last
    (c.in_ok-machine.ensures.goes files sink) c.image_with.ensures.kept.faults
    c.in_ok-machine.ensures.opened
    (at_ok c.replay_events.result (sym c.is_err.ensures.value ∙ c.if-is_err.false)
    c.replay_events.ensures.did) (at_err c.image_with.result bad c.image_with.ensures.failed)
    (subst (λ (s : Geometry). StoppedWithin s.banks [] b.banks last.banks)
    (ap geometry_of c.in_ok-machine.ensures.machine)
    (at_err c.image_with.result bad c.image_with.ensures.left))

pub returns-clause-goes : goal.returns-clause-goes
returns-clause-goes g c files sink =
    let did = at_ok c.replay_events.result (sym c.is_err.ensures.value ∙ c.if-is_err.false)
    c.replay_events.ensures.did in
    let read = at_ok c.image_with.result (sym c.is_err-2.ensures.value ∙ c.if-is_err-2.false)
    c.image_with.ensures.did in
    rows_read c.args.trace.now (image_found (found_in c.args.image)) files sink (g.D.Dram.view c.args.chip.now) (g.D.Dram.view c.open.new.chip)
    (g.D.Dram.view c.replay_events.new.dram) (g.D.Dram.view c.image_with.new.dram)
    (c.in_ok-machine.ensures.goes files sink) did.faults
    (did.banks ∙ ap (after c.args.trace.now.events) c.in_ok-machine.ensures.opened.banks) read.faults
    read.banks

pub returns-clause-done : goal.returns-clause-done
returns-clause-done g c =
    let did = at_ok c.replay_events.result (sym c.is_err.ensures.value ∙ c.if-is_err.false)
    c.replay_events.ensures.did in
    let read = at_ok c.image_with.result (sym c.is_err-2.ensures.value ∙ c.if-is_err-2.false)
    c.image_with.ensures.did in
    events_done c.args.trace.now (image_found (found_in c.args.image))
    (geometry_of c.in_ok-machine.machine) (g.D.Dram.view c.open.new.chip)
    (g.D.Dram.view c.replay_events.new.dram) (g.D.Dram.view c.image_with.new.dram)
    (ap geometry_of c.in_ok-machine.ensures.machine) c.requires.same c.in_ok-machine.ensures.opened
    did read
    c.replay_events.ensures.kept c.image_with.ensures.kept

pub returns-clause-file : goal.returns-clause-file
returns-clause-file g c =
    let did = at_ok c.replay_events.result (sym c.is_err.ensures.value ∙ c.if-is_err.false)
    c.replay_events.ensures.did in
    let file = at_ok c.image_with.result (sym c.is_err-2.ensures.value ∙ c.if-is_err-2.false)
    c.image_with.ensures.file in
    file ∙ file_is c.args.trace.now (image_found (found_in c.args.image))
    (geometry_of c.in_ok-machine.machine) c.table.result.now.pairs (g.D.Dram.view c.open.new.chip)
    (g.D.Dram.view c.replay_events.new.dram)
    (ap geometry_of c.in_ok-machine.ensures.machine ∙ c.requires.same) c.table.ensures.objects
    c.in_ok-machine.ensures.opened did
