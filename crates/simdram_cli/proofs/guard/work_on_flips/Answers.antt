use Rattle.simdram_cli.proofs.Common.{map, length, List, subst, IfOk, err_from_is_err_and, found_in}
use Rattle.simdram_cli.proofs.Common.{view_of, Flip, world, Goes, reads, takes, unread, wants}
use Rattle.simdram_cli.specs.Stops.{end_of}
use Rattle.simdram_cli.specs.declared.words.TheConstants.{FLIPS_MAX}
use Rattle.simdram_cli.specs.Flips.{flips_in}
use Rattle.simdram_cli.specs.Guard.{GuardDone, guard_job, work_steps}
use Rattle.simdram_cli.specs.Inputs.{image_found}
use Rattle.simdram_cli.proofs.Guarding.{guard_runs, read_mapped, unread_mapped}
use Rattle.simdram_cli.proofs.guard.work_on_flips.Goals as goal

pub returns-in_err-flips-clause-runs : goal.returns-in_err-flips-clause-runs
returns-in_err-flips-clause-runs g c =
    let p = err_from_is_err_and c.from_residual.result c.from_residual.ensures.1 in
    let script = map view_of c.args.script.now in
    rw (p.1, p.2) (unread c.args.names.now.flips.now FLIPS_MAX
    (flips_in c.args.image.geometry (length script)) _ _ (g.F.Folder.view c.args.files.now)
    (g.F.Folder.view c.load_flips.new.files) (g.S.Sink.view c.args.out.now)
    (g.D.Dram.view c.args.chip.now)
    (unread_mapped c.args.image.geometry c.args.names.now.flips.now c.args.script.now _
    (g.F.Folder.view c.args.files.now) (g.F.Folder.view c.load_flips.new.files)
    c.in_err-flips.ensures.not_read))

pub returns-in_default-clause-runs : goal.returns-in_default-clause-runs
returns-in_default-clause-runs g c =
    let script = map view_of c.args.script.now in
    reads c.args.names.now.flips.now FLIPS_MAX (flips_in c.args.image.geometry (length script)) _
    c.in_ok-flips.flips.items _ (g.F.Folder.view c.args.files.now)
    (g.F.Folder.view c.load_flips.new.files) (g.S.Sink.view c.args.out.now)
    (g.D.Dram.view c.args.chip.now) _
    (read_mapped c.args.image.geometry c.args.names.now.flips.now c.args.script.now _
    (g.F.Folder.view c.args.files.now) (g.F.Folder.view c.load_flips.new.files)
    c.in_ok-flips.ensures.read) (wants _ _)

pub returns-clause-runs : goal.returns-clause-runs
returns-clause-runs g c =
    let script = map view_of c.args.script.now in
    let i = image_found (found_in c.args.image) in
    let a = world (g.F.Folder.view c.load_flips.new.files) (g.S.Sink.view c.args.out.now)
    (g.D.Dram.view c.args.chip.now) in
    let b = world (g.F.Folder.view c.work_guarded.new.files) (g.S.Sink.view c.work_guarded.new.out)
    (g.D.Dram.view c.work_guarded.new.chip) in
    let job = λ (xs : List Flip). guard_job c.args.prog.programs script i xs in
    let out = c.args.names.now.out.now in
    let is = c.deref.ensures.value in
    rw c.completed.ensures (reads c.args.names.now.flips.now FLIPS_MAX (flips_in c.args.image.geometry (length script)) _
    c.in_ok-flips.flips.items _ (g.F.Folder.view c.args.files.now)
    (g.F.Folder.view c.load_flips.new.files) (g.S.Sink.view c.args.out.now)
    (g.D.Dram.view c.args.chip.now) b
    (read_mapped c.args.image.geometry c.args.names.now.flips.now c.args.script.now _
    (g.F.Folder.view c.args.files.now) (g.F.Folder.view c.load_flips.new.files)
    c.in_ok-flips.ensures.read)
    (takes _ _ _ _ (guard_runs out (job c.in_ok-flips.flips.items) c.work_guarded.result a b
    c.requires.is c.requires.plain
    (subst (λ (xs : List Flip). Goes (work_steps out (job xs)) (end_of c.work_guarded.result) a b)
    is c.work_guarded.ensures.goes)
    (subst (λ (xs : List Flip). IfOk c.work_guarded.result (GuardDone (job xs)
    (g.D.Dram.view c.work_guarded.new.chip))) is c.work_guarded.ensures.done))))
