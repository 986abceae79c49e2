use Rattle.simdram_cli.proofs.Common.{ap, err_from_is_err_and, parsed, unloaded, runs_made}
use Rattle.simdram_cli.specs.declared.words.TheConstants.{TRACE_MAX}
use Rattle.simdram_cli.specs.Traces.{trace_in, trace_or_refusal}
use Rattle.simdram_cli.proofs.Replaying.{trace_not_read}
use Rattle.simdram_cli.proofs.replay.replay.Goals as goal

pub returns-in_err-bytes-clause-runs : goal.returns-in_err-bytes-clause-runs
returns-in_err-bytes-clause-runs g c =
    let p = err_from_is_err_and c.from_residual.result c.from_residual.ensures.1 in
    rw (p.1, p.2) (unloaded c.args.names.now.trace.now TRACE_MAX trace_in _ _
    (g.F.Folder.view c.args.files.now) (g.F.Folder.view c.load.new.files)
    (g.S.Sink.view c.args.out.now) (g.D.Dram.view c.args.chip.now) c.in_err-bytes.ensures.failed)

pub returns-in-Err-clause-runs : goal.returns-in-Err-clause-runs
returns-in-Err-clause-runs g c =
    trace_not_read _ c.args.names.now.trace.now c.trace_stop.result c.in-Err.no
    c.in_ok-bytes.bytes.items (g.F.Folder.view c.args.files.now) (g.F.Folder.view c.load.new.files)
    (g.S.Sink.view c.args.out.now) (g.D.Dram.view c.args.chip.now) c.in_ok-bytes.ensures.loaded
    (rw c.deref.ensures.value at c.in-Err.ensures.exact) c.trace_stop.ensures

pub returns-clause-runs : goal.returns-clause-runs
returns-clause-runs g c =
    let exact = rw c.deref.ensures.value at c.in-Ok.ensures.exact in
    let spelled = rw c.deref.ensures.value at c.in-Ok.ensures.spelled in
    parsed c.args.names.now.trace.now TRACE_MAX trace_in _ c.in_ok-bytes.bytes.items c.in-Ok.trace _
    (g.F.Folder.view c.args.files.now) (g.F.Folder.view c.load.new.files)
    (g.S.Sink.view c.args.out.now) (g.D.Dram.view c.args.chip.now) _ c.in_ok-bytes.ensures.loaded
    (ap trace_or_refusal exact)
    (runs_made _ _ tt _ _ _ (spelled.0, spelled.1) c.replay_on_image.ensures.runs)
