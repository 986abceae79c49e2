use Rattle.simdram_cli.proofs.Common.{◌≡◌, ◌∙◌, subst, err_from_is_err_and, microprograms_of}
use Rattle.simdram_cli.proofs.Common.{Program, world, Runs}
use Rattle.simdram_cli.specs.Plans.{job_plan, said_of}
use Rattle.simdram_cli.specs.Run.{job_names}
use Rattle.simdram_cli.proofs.Compiled.{compiled_stopped, compiled_taken}
use Rattle.simdram_cli.proofs.run.run.Goals as goal

pub returns-in_err-file-clause-runs : goal.returns-in_err-file-clause-runs
returns-in_err-file-clause-runs g c =
    let p = err_from_is_err_and c.from_residual.result c.from_residual.ensures.1 in
    rw (p.1, p.2) (compiled_stopped c.args.names.now.ops.now c.args.names.now.prog.now _ _
    (g.F.Folder.view c.args.files.now) (g.F.Folder.view c.take_program.new.files)
    (g.S.Sink.view c.args.out.now) (g.D.Dram.view c.args.chip.now) c.in_err-file.ensures.stopped)

pub returns-clause-runs : goal.returns-clause-runs
returns-clause-runs g c =
    let program = microprograms_of c.in_ok-file.field-0-0 in
    let same : c.open_own.result.programs ≡ program = c.open_own.ensures.spelled program
    c.in_ok-file.ensures.program (c.deref.ensures.value ∙ c.in_ok-file.ensures.file) in
    compiled_taken c.args.names.now.ops.now c.args.names.now.prog.now _ program _
    (g.F.Folder.view c.args.files.now) (g.F.Folder.view c.take_program.new.files)
    (g.S.Sink.view c.args.out.now) (g.D.Dram.view c.args.chip.now) _
    c.in_ok-file.ensures.taken
    (subst (λ (p : Program). Runs (job_plan (job_names c.args.names.now) p)
    (world (g.F.Folder.view c.take_program.new.files) (g.S.Sink.view c.args.out.now)
    (g.D.Dram.view c.args.chip.now))
    (world (g.F.Folder.view c.do_job.new.files) (g.S.Sink.view c.do_job.new.out)
    (g.D.Dram.view c.do_job.new.chip)) (said_of c.do_job.result)) same c.do_job.ensures.runs)
