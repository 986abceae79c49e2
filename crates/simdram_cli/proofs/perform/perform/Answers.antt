use Rattle.simdram_cli.proofs.Common.{inl, inr, refl, map, sym, ◌≡◌, ◌++◌, ◌∙◌, err_from_is_err_and}
use Rattle.simdram_cli.proofs.Common.{AppendsPart, found_in, view_of, total_line, world, Done}
use Rattle.simdram_cli.proofs.Common.{PutFailed, Stopped}
use Rattle.simdram_cli.specs.Inputs.{image_found}
use Rattle.simdram_cli.proofs.Performing.{all_done, own_first, started_on, stopped_first}
use Rattle.simdram_cli.proofs.Performing.{stopped_open, total_is, went_on}
use Rattle.simdram_cli.proofs.Progress.{holds_on}
use Rattle.simdram_cli.proofs.Stores.{at_err, at_ok, put, sent}
use Rattle.simdram_cli.proofs.perform.perform.Goals as goal

pub returns-in_err-machine-clause-goes : goal.returns-in_err-machine-clause-goes
returns-in_err-machine-clause-goes g c =
    let p = err_from_is_err_and c.from_residual.result c.from_residual.ensures.1 in
    let i = image_found (found_in c.args.image) in
    let files = g.F.Folder.view c.args.files.now in
    let out = g.S.Sink.view c.args.out.now in
    rw (p.1, p.2) (stopped_open c.args.name.now c.args.prog.programs
    (map view_of c.args.script.now) i _ (world files out (g.D.Dram.view c.args.chip.now))
    (world files out (g.D.Dram.view c.open.new.chip))
    (c.in_err-machine.ensures.goes files out))

pub returns-in_err-refused-clause-goes : goal.returns-in_err-refused-clause-goes
returns-in_err-refused-clause-goes g c =
    let p = err_from_is_err_and c.from_residual-in_err-refused.result
    c.from_residual-in_err-refused.ensures.1 in
    let program = c.args.prog.programs in
    let script = map view_of c.args.script.now in
    let i = image_found (found_in c.args.image) in
    let machine = c.in_ok-machine.machine in
    let opened = c.in_ok-machine.ensures in
    let files = g.F.Folder.view c.args.files.now in
    let out = g.S.Sink.view c.args.out.now in
    let start = g.D.Dram.view c.open.new.chip in
    let a = world files out (g.D.Dram.view c.args.chip.now) in
    let b = world files out start in
    let d = world (g.F.Folder.view c.work_to_image.new.files) (g.S.Sink.view c.work_to_image.new.out)
    (g.D.Dram.view c.work_to_image.new.chip) in
    let started = started_on program i machine start opened.machine
    (holds_on c.args.image.geometry c.args.image.table c.requires.lies) opened.opened in
    rw (p.1, p.2) (stopped_first c.args.name.now program script i _ a b d (opened.goes files out)
    (own_first c.args.name.now program script i machine start _ b d started
    c.in_err-refused.ensures.goes))

pub returns-then-is_err-clause-goes : goal.returns-then-is_err-clause-goes
returns-then-is_err-clause-goes g c =
    let program = c.args.prog.programs in
    let script = map view_of c.args.script.now in
    let i = image_found (found_in c.args.image) in
    let machine = c.in_ok-machine.machine in
    let opened = c.in_ok-machine.ensures in
    let worked = c.in_ok-refused.ensures in
    let refused = c.in_ok-refused.refused in
    let files = g.F.Folder.view c.args.files.now in
    let out = g.S.Sink.view c.args.out.now in
    let start = g.D.Dram.view c.open.new.chip in
    let last = g.D.Dram.view c.work_to_image.new.chip in
    let stores = g.F.Folder.view c.work_to_image.new.files in
    let lines = g.S.Sink.view c.work_to_image.new.out in
    let a = world files out (g.D.Dram.view c.args.chip.now) in
    let b = world files out start in
    let d = world stores lines last in
    let e = world stores (g.S.Sink.view c.put_total.new.out) last in
    let started = started_on program i machine start opened.machine
    (holds_on c.args.image.geometry c.args.image.table c.requires.lies) opened.opened in
    let done = all_done program script i machine start last refused started opened.opened worked.did
    c.work_to_image.ensures.kept worked.refused in
    let bad = sym c.is_err.ensures.value ∙ c.if-is_err.true in
    went_on c.args.name.now program script i (Stopped PutFailed) a b d e (opened.goes files out)
    (own_first c.args.name.now program script i machine start Done b d started worked.goes)
    (total_is program script i last refused (Stopped PutFailed) d e done
    (inr (
      refl,
      sent (AppendsPart (total_line last.counters refused)) stores lines
          (g.S.Sink.view c.put_total.new.out) last
          (at_err c.put_total.result bad c.put_total.ensures.part) c.put_total.ensures.faults,
      at_err c.put_total.result bad c.put_total.ensures.rose,
    )))

pub returns-clause-goes : goal.returns-clause-goes
returns-clause-goes g c =
    let program = c.args.prog.programs in
    let script = map view_of c.args.script.now in
    let i = image_found (found_in c.args.image) in
    let machine = c.in_ok-machine.machine in
    let opened = c.in_ok-machine.ensures in
    let worked = c.in_ok-refused.ensures in
    let refused = c.in_ok-refused.refused in
    let files = g.F.Folder.view c.args.files.now in
    let out = g.S.Sink.view c.args.out.now in
    let start = g.D.Dram.view c.open.new.chip in
    let last = g.D.Dram.view c.work_to_image.new.chip in
    let stores = g.F.Folder.view c.work_to_image.new.files in
    let lines = g.S.Sink.view c.work_to_image.new.out in
    let a = world files out (g.D.Dram.view c.args.chip.now) in
    let b = world files out start in
    let d = world stores lines last in
    let e = world stores (g.S.Sink.view c.put_total.new.out) last in
    let started = started_on program i machine start opened.machine
    (holds_on c.args.image.geometry c.args.image.table c.requires.lies) opened.opened in
    let done = all_done program script i machine start last refused started opened.opened worked.did
    c.work_to_image.ensures.kept worked.refused in
    let fine = sym c.is_err.ensures.value ∙ c.if-is_err.false in
    went_on c.args.name.now program script i Done a b d e (opened.goes files out)
    (own_first c.args.name.now program script i machine start Done b d started worked.goes)
    (total_is program script i last refused Done d e done
    (inl (
      e,
      (
        put (total_line last.counters refused) stores lines (g.S.Sink.view c.put_total.new.out) last
            (at_ok c.put_total.result fine c.put_total.ensures.sent)
            (at_ok c.put_total.result fine c.put_total.ensures.unfailed),
        refl,
      ),
    )))

pub returns-clause-done : goal.returns-clause-done
returns-clause-done g c =
    let program = c.args.prog.programs in
    let i = image_found (found_in c.args.image) in
    let opened = c.in_ok-machine.ensures in
    let worked = c.in_ok-refused.ensures in
    let start = g.D.Dram.view c.open.new.chip in
    all_done program (map view_of c.args.script.now) i c.in_ok-machine.machine start
    (g.D.Dram.view c.work_to_image.new.chip) c.in_ok-refused.refused
    (started_on program i c.in_ok-machine.machine start opened.machine
    (holds_on c.args.image.geometry c.args.image.table c.requires.lies) opened.opened)
    opened.opened worked.did c.work_to_image.ensures.kept worked.refused
