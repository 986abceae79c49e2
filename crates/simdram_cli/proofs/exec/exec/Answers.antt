use Rattle.simdram_cli.proofs.Common.{sym, ◌∙◌, ap, err_from_is_err_and, IsProgramFile, parsed}
use Rattle.simdram_cli.proofs.Common.{refused, unloaded, runs_made}
use Rattle.simdram_cli.specs.declared.words.TheConstants.{PROG_MAX}
use Rattle.simdram_cli.specs.Programs.{prog_in, prog_refusal, program_or_refusal}
use Rattle.simdram_cli.proofs.Migrating.{prog_is}
use Rattle.simdram_cli.proofs.exec.exec.Goals as goal

pub returns-in_err-bytes-clause-runs : goal.returns-in_err-bytes-clause-runs
returns-in_err-bytes-clause-runs g c =
    let p = err_from_is_err_and c.from_residual.result c.from_residual.ensures.1 in
    rw (p.1, p.2) (unloaded c.args.names.now.prog.now PROG_MAX prog_in _ _
    (g.F.Folder.view c.args.files.now) (g.F.Folder.view c.load.new.files)
    (g.S.Sink.view c.args.out.now) (g.D.Dram.view c.args.chip.now) c.in_err-bytes.ensures.failed)

pub returns-in-Err-clause-runs : goal.returns-in-Err-clause-runs
returns-in-Err-clause-runs g c =
    refused c.args.names.now.prog.now PROG_MAX prog_in _ c.in_ok-bytes.bytes.items
    (prog_refusal c.in-Err.fault) (g.F.Folder.view c.args.files.now)
    (g.F.Folder.view c.load.new.files) (g.S.Sink.view c.args.out.now)
    (g.D.Dram.view c.args.chip.now) c.in_ok-bytes.ensures.loaded
    (ap program_or_refusal (rw c.deref.ensures.value at c.in-Err.ensures.exact))

pub returns-clause-runs : goal.returns-clause-runs
returns-clause-runs g c =
    let spelled = c.in-Ok.ensures.spelled in
    let file : IsProgramFile c.in_ok-bytes.bytes.items = record {
      version = c.in-Ok.prog.version;
      programs = c.in-Ok.prog.programs;
      is = spelled.0;
      has = spelled.1;
      spelled = (rw c.deref.ensures.value at (sym c.in-Ok.ensures.bytes)) ∙ spelled.2;
    } in
    parsed c.args.names.now.prog.now PROG_MAX prog_in _ c.in_ok-bytes.bytes.items
    c.in-Ok.prog.programs _ (g.F.Folder.view c.args.files.now) (g.F.Folder.view c.load.new.files)
    (g.S.Sink.view c.args.out.now) (g.D.Dram.view c.args.chip.now) _ c.in_ok-bytes.ensures.loaded
    (prog_is c.in_ok-bytes.bytes.items file)
    (runs_made _ _ tt _ _ _ file c.do_job.ensures.runs)
