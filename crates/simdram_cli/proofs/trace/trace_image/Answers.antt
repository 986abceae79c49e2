use Rattle.simdram_cli.proofs.Common.{arith, map, err_from_is_err_and, rows_in, found_in, view_of}
use Rattle.simdram_cli.proofs.Common.{parsed, unloaded}
use Rattle.simdram_cli.specs.declared.words.TheConstants.{IMAGE_MAX}
use Rattle.simdram_cli.specs.Inputs.{image_found, image_of}
use Rattle.simdram_cli.proofs.JobPlans.{image_not_read}
use Rattle.simdram_cli.proofs.Running.{image_is}
use Rattle.simdram_cli.proofs.Sized.{rows_sized}
use Rattle.simdram_cli.proofs.Tracing.{script_runs}
use Rattle.simdram_cli.proofs.trace.trace_image.Goals as goal

pub returns-in_err-bytes-clause-runs : goal.returns-in_err-bytes-clause-runs
returns-in_err-bytes-clause-runs g c =
    let p = err_from_is_err_and c.from_residual.result c.from_residual.ensures.1 in
    rw (p.1, p.2) (unloaded c.args.names.now.image.now IMAGE_MAX image_of _ _
    (g.F.Folder.view c.args.files.now) (g.F.Folder.view c.load.new.files)
    (g.S.Sink.view c.args.out.now) (g.D.Dram.view c.args.chip.now) c.in_err-bytes.ensures.failed)

pub returns-in-Err-clause-runs : goal.returns-in-Err-clause-runs
returns-in-Err-clause-runs g c =
    image_not_read _ c.args.names.now.image.now c.image_stop.result c.in-Err.no
    c.in_ok-bytes.bytes.items (g.F.Folder.view c.args.files.now) (g.F.Folder.view c.load.new.files)
    (g.S.Sink.view c.args.out.now) (g.D.Dram.view c.args.chip.now) c.in_ok-bytes.ensures.loaded
    (rw c.deref.ensures.value at c.in-Err.ensures.exact) c.image_stop.ensures

pub trace_script-requires : goal.trace_script-requires
trace_script-requires g c =
    let image = c.in-Ok.image in
    let found = found_in image in
    let rows = rows_in image.geometry image.rows.now in
    let is = c.in-Ok.ensures.spelled.0 in
    record {
      legal = c.requires.legal;
      lies = record {
        geometry = is.geometry;
        limit = c.in-Ok.ensures.limit;
        listed = is.listed;
        objects = is.objects;
      };
      rows = rows_sized found (c.in-Ok.ensures.only image.geometry image.table.pairs rows is
          c.in-Ok.ensures.spelled.1);
      plain = c.requires.plain;
      few = omega (arith, c.requires.few);
    }

pub returns-clause-runs : goal.returns-clause-runs
returns-clause-runs g c =
    let i = image_found (found_in c.in-Ok.image) in
    rw c.completed.ensures (parsed c.args.names.now.image.now IMAGE_MAX image_of _
    c.in_ok-bytes.bytes.items i _
    (g.F.Folder.view c.args.files.now) (g.F.Folder.view c.load.new.files)
    (g.S.Sink.view c.args.out.now) (g.D.Dram.view c.args.chip.now) _ c.in_ok-bytes.ensures.loaded
    (image_is c.in_ok-bytes.bytes.items (found_in c.in-Ok.image)
    (rw c.deref.ensures.value at c.in-Ok.ensures.exact))
    (script_runs c.args.names.now c.args.prog.programs (map view_of c.args.script.now) i
    c.trace_script.result _ _ c.in-Ok.ensures.spelled.0 c.requires.plain
    c.trace_script.ensures.traced))
