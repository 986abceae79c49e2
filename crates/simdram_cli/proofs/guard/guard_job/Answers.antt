use Rattle.simdram_cli.proofs.Common.{map, err_from_is_err_and, view_of, reads, unread}
use Rattle.simdram_cli.specs.declared.words.TheConstants.{SCRIPT_MAX}
use Rattle.simdram_cli.specs.Flips.{guarded_script_in}
use Rattle.simdram_cli.proofs.guard.guard_job.Goals as goal

pub returns-in_err-script-clause-runs : goal.returns-in_err-script-clause-runs
returns-in_err-script-clause-runs g c =
    let p = err_from_is_err_and c.from_residual.result c.from_residual.ensures.1 in
    rw (p.1, p.2) (unread c.args.names.now.script.now SCRIPT_MAX guarded_script_in _ _
    (g.F.Folder.view c.args.files.now) (g.F.Folder.view c.load_guarded.new.files)
    (g.S.Sink.view c.args.out.now) (g.D.Dram.view c.args.chip.now)
    c.in_err-script.ensures.not_read)

pub returns-clause-runs : goal.returns-clause-runs
returns-clause-runs g c =
    reads c.args.names.now.script.now SCRIPT_MAX guarded_script_in _
    (map view_of c.in_ok-script.script.items) _ (g.F.Folder.view c.args.files.now)
    (g.F.Folder.view c.load_guarded.new.files) (g.S.Sink.view c.args.out.now)
    (g.D.Dram.view c.args.chip.now) _ c.in_ok-script.ensures.read
    (rw c.deref.ensures.value at c.guard_image.ensures.runs)
