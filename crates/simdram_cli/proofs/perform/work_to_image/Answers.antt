use Rattle.simdram_cli.proofs.Common.{[], ap, map, subst, sym, ◌∙◌, err_from_is_err_and, view_of}
use Rattle.simdram_cli.proofs.Common.{Banks, after, StoppedWithin, Kept-more, geometry_of, table_in}
use Rattle.simdram_cli.proofs.Common.{world, CannotWrite, ChipFailed, Done, Stopped, doing}
use Rattle.simdram_cli.specs.Tracing.{events_on, image_on}
use Rattle.simdram_cli.proofs.Stores.{at_err, at_ok, stored, unstored}
use Rattle.simdram_cli.proofs.Tracing.{did_all, image_failed, image_is_on, image_stored}
use Rattle.simdram_cli.proofs.Tracing.{image_unstored, then_image, work_stopped}
use Rattle.dram_model.specs.declared.geometry.Geometry.{Geometry}
use Rattle.cli_model.specs.Waves.{and_reading}
use Rattle.simdram_cli.proofs.perform.work_to_image.Goals as goal

pub returns-in_err-refused-clause-goes : goal.returns-in_err-refused-clause-goes
returns-in_err-refused-clause-goes g c =
    let p = err_from_is_err_and c.from_residual.result c.from_residual.ensures.1 in
    let files = g.F.Folder.view c.args.files.now in
    rw (p.1, p.2) (work_stopped c.args.machine.now (g.D.Dram.view c.args.chip.now).banks
    (map view_of c.args.script.now) c.args.name.now _
    (world files (g.S.Sink.view c.args.out.now) (g.D.Dram.view c.args.chip.now))
    (world files (g.S.Sink.view c.work.new.out) (g.D.Dram.view c.work.new.chip))
    (c.in_err-refused.ensures.goes files))

pub returns-then-is_err-clause-kept : goal.returns-then-is_err-clause-kept
returns-then-is_err-clause-kept g c =
    Kept-more (g.D.Dram.view c.args.chip.now) (g.D.Dram.view c.work.new.chip)
    (g.D.Dram.view c.image.new.dram) c.work.ensures.kept c.image.ensures.kept

pub returns-then-is_err-clause-goes : goal.returns-then-is_err-clause-goes
returns-then-is_err-clause-goes g c =
    let files = g.F.Folder.view c.args.files.now in
    let out = g.S.Sink.view c.work.new.out in
    let mid = g.D.Dram.view c.work.new.chip in
    let last = g.D.Dram.view c.image.new.dram in
    let script = map view_of c.args.script.now in
    let banks = (g.D.Dram.view c.args.chip.now).banks in
    let bad = sym c.is_err.ensures.value ∙ c.if-is_err.true in
    then_image c.args.machine.now banks script c.args.name.now (Stopped ChipFailed)
    (world files (g.S.Sink.view c.args.out.now) (g.D.Dram.view c.args.chip.now))
    (world files out mid) (world files out last) (c.in_ok-refused.ensures.goes files)
    (image_failed (and_reading (geometry_of c.args.machine.now).banks
    (doing (after (events_on c.args.machine.now script) banks) []))
    c.args.name.now (image_on c.args.machine.now banks script) files out mid last
    c.image.ensures.kept.faults (at_err c.image.result bad c.image.ensures.failed)
    (subst (λ (s : Geometry). StoppedWithin s.banks [] (after (events_on c.args.machine.now script)
    banks) last.banks) (ap geometry_of c.work.ensures.goes_on)
    (subst (λ (b : Banks). StoppedWithin (geometry_of c.work.new.machine).banks [] b last.banks)
    c.in_ok-refused.ensures.did.banks (at_err c.image.result bad c.image.ensures.left))))

pub returns-then-is_err-2-clause-kept : goal.returns-then-is_err-2-clause-kept
returns-then-is_err-2-clause-kept g c =
    Kept-more (g.D.Dram.view c.args.chip.now) (g.D.Dram.view c.work.new.chip)
    (g.D.Dram.view c.image.new.dram) c.work.ensures.kept c.image.ensures.kept

pub returns-then-is_err-2-clause-goes : goal.returns-then-is_err-2-clause-goes
returns-then-is_err-2-clause-goes g c =
    let files = g.F.Folder.view c.args.files.now in
    let stores = g.F.Folder.view c.store.new.self in
    let out = g.S.Sink.view c.work.new.out in
    let mid = g.D.Dram.view c.work.new.chip in
    let last = g.D.Dram.view c.image.new.dram in
    let script = map view_of c.args.script.now in
    let banks = (g.D.Dram.view c.args.chip.now).banks in
    let read = at_ok c.image.result (sym c.is_err.ensures.value
    ∙ c.if-is_err.false) c.image.ensures.did in
    let rose = at_err c.store.result (sym c.is_err-2.ensures.value
    ∙ c.if-is_err-2.true) c.store.ensures.failed in
    then_image c.args.machine.now banks script c.args.name.now
    (Stopped (CannotWrite c.args.name.now))
    (world files (g.S.Sink.view c.args.out.now) (g.D.Dram.view c.args.chip.now))
    (world files out mid) (world stores out last) (c.in_ok-refused.ensures.goes files)
    (image_unstored (and_reading (geometry_of c.args.machine.now).banks
    (doing (after (events_on c.args.machine.now script) banks) []))
    c.args.name.now (image_on c.args.machine.now banks script) files stores out mid
    last read.faults (read.banks ∙ c.in_ok-refused.ensures.did.banks) (unstored c.args.name.now files stores out last
    c.store.ensures.others rose c.store.ensures.counts))

pub returns-clause-kept : goal.returns-clause-kept
returns-clause-kept g c =
    Kept-more (g.D.Dram.view c.args.chip.now) (g.D.Dram.view c.work.new.chip)
    (g.D.Dram.view c.image.new.dram) c.work.ensures.kept c.image.ensures.kept

pub returns-clause-did : goal.returns-clause-did
returns-clause-did g c =
    did_all c.args.machine.now (map view_of c.args.script.now)
    (geometry_of c.work.new.machine) (g.D.Dram.view c.args.chip.now)
    (g.D.Dram.view c.work.new.chip) (g.D.Dram.view c.image.new.dram)
    (ap geometry_of c.work.ensures.goes_on)
    c.in_ok-refused.ensures.did (at_ok c.image.result (sym c.is_err.ensures.value
    ∙ c.if-is_err.false) c.image.ensures.did)

pub returns-clause-table : goal.returns-clause-table
returns-clause-table g c = ap table_in c.image.ensures.same ∙ c.in_ok-refused.ensures.table

pub returns-clause-goes : goal.returns-clause-goes
returns-clause-goes g c =
    let files = g.F.Folder.view c.args.files.now in
    let stores = g.F.Folder.view c.store.new.self in
    let out = g.S.Sink.view c.work.new.out in
    let start = g.D.Dram.view c.args.chip.now in
    let mid = g.D.Dram.view c.work.new.chip in
    let last = g.D.Dram.view c.image.new.dram in
    let script = map view_of c.args.script.now in
    let machine = c.args.machine.now in
    let file = at_ok c.image.result (sym c.is_err.ensures.value
    ∙ c.if-is_err.false) c.image.ensures.file in
    let is = image_is_on machine c.work.new.machine script start mid
    (ap geometry_of c.work.ensures.goes_on)
    c.in_ok-refused.ensures.table c.in_ok-refused.ensures.did.banks in
    let read = at_ok c.image.result (sym c.is_err.ensures.value
    ∙ c.if-is_err.false) c.image.ensures.did in
    let there = at_ok c.store.result (sym c.is_err-2.ensures.value
    ∙ c.if-is_err-2.false) c.store.ensures.stored in
    then_image machine start.banks script c.args.name.now Done
    (world files (g.S.Sink.view c.args.out.now) start) (world files out mid) (world stores out last)
    (c.in_ok-refused.ensures.goes files)
    (image_stored (and_reading (geometry_of machine).banks
    (doing (after (events_on machine script) start.banks) []))
    c.args.name.now (image_on machine start.banks script) files stores out mid
    last read.faults (read.banks ∙ c.in_ok-refused.ensures.did.banks) (stored c.args.name.now _ files stores out last
    c.store.ensures.others (rw (c.file.ensures, file, is) at there) c.store.ensures.counts
    (at_ok c.store.result (sym c.is_err-2.ensures.value ∙ c.if-is_err-2.false) c.store.ensures.unfailed)))
