use Rattle.simdram_cli.proofs.Common.{err_from_is_err_and, rows_in, found_in, parsed, refused}
use Rattle.simdram_cli.proofs.Common.{unloaded}
use Rattle.simdram_cli.specs.declared.words.TheConstants.{IMAGE_MAX}
use Rattle.simdram_cli.specs.Inputs.{image_found}
use Rattle.simdram_cli.specs.Traces.{geometry_differs, image_for, same_geometry}
use Rattle.simdram_cli.proofs.Replaying.{differs, differs_at, geometry_is, image_not_read, same}
use Rattle.simdram_cli.proofs.Replaying.{same_at}
use Rattle.simdram_cli.proofs.Scanning.{image_is}
use Rattle.simdram_cli.proofs.Sized.{rows_sized}
use Rattle.simdram_cli.proofs.replay.replay_on_image.Goals as goal

pub returns-in_err-bytes-clause-runs : goal.returns-in_err-bytes-clause-runs
returns-in_err-bytes-clause-runs g c =
    let p = err_from_is_err_and c.from_residual.result c.from_residual.ensures.1 in
    rw (p.1, p.2) (unloaded c.args.names.now.image.now IMAGE_MAX
    (image_for c.args.trace.now.geometry) _ _ (g.F.Folder.view c.args.files.now)
    (g.F.Folder.view c.load.new.files) (g.S.Sink.view c.args.out.now)
    (g.D.Dram.view c.args.chip.now) c.in_err-bytes.ensures.failed)

pub returns-in-Err-clause-runs : goal.returns-in-Err-clause-runs
returns-in-Err-clause-runs g c =
    image_not_read c.args.trace.now.geometry _ c.args.names.now.image.now c.image_stop.result
    c.in-Err.no c.in_ok-bytes.bytes.items (g.F.Folder.view c.args.files.now)
    (g.F.Folder.view c.load.new.files) (g.S.Sink.view c.args.out.now)
    (g.D.Dram.view c.args.chip.now) c.in_ok-bytes.ensures.loaded
    (rw c.deref.ensures.value at c.in-Err.ensures.exact) c.image_stop.ensures

pub replay_on-requires : goal.replay_on-requires
replay_on-requires g c =
    let image = c.in-Ok.image in
    let found = found_in image in
    let rows = rows_in image.geometry image.rows.now in
    let is = c.in-Ok.ensures.spelled.0 in
    record {
      lies = record {
        geometry = is.geometry;
        limit = c.in-Ok.ensures.limit;
        listed = is.listed;
        objects = is.objects;
      };
      rows = rows_sized found (c.in-Ok.ensures.only image.geometry image.table.pairs rows is
          c.in-Ok.ensures.spelled.1);
      same = geometry_is image.geometry c.args.trace.now.geometry
          (rw c.geometry.ensures at (same_at c.ne.result
          (same_geometry image.geometry c.geometry.result) c.ne.ensures c.if-ne.false));
    }

pub returns-then-ne-clause-runs : goal.returns-then-ne-clause-runs
returns-then-ne-clause-runs g c =
    let image = c.in-Ok.image in
    let text = c.in_ok-bytes.bytes.items in
    let shape = c.args.trace.now.geometry in
    refused c.args.names.now.image.now IMAGE_MAX (image_for shape) _ text geometry_differs
    (g.F.Folder.view c.args.files.now) (g.F.Folder.view c.load.new.files)
    (g.S.Sink.view c.args.out.now) (g.D.Dram.view c.args.chip.now) c.in_ok-bytes.ensures.loaded
    (differs shape text (image_found (found_in image)) (image_is text (found_in image)
    (rw c.deref.ensures.value at c.in-Ok.ensures.exact))
    (rw c.geometry.ensures at (differs_at c.ne.result
    (same_geometry image.geometry c.geometry.result) c.ne.ensures c.if-ne.true)))

pub returns-clause-runs : goal.returns-clause-runs
returns-clause-runs g c =
    let image = c.in-Ok.image in
    let text = c.in_ok-bytes.bytes.items in
    let shape = c.args.trace.now.geometry in
    let i = image_found (found_in image) in
    parsed c.args.names.now.image.now IMAGE_MAX (image_for shape) _ text i _
    (g.F.Folder.view c.args.files.now) (g.F.Folder.view c.load.new.files)
    (g.S.Sink.view c.args.out.now) (g.D.Dram.view c.args.chip.now) _ c.in_ok-bytes.ensures.loaded
    (same shape text i (image_is text (found_in image)
    (rw c.deref.ensures.value at c.in-Ok.ensures.exact))
    (rw c.geometry.ensures at (same_at c.ne.result
    (same_geometry image.geometry c.geometry.result) c.ne.ensures c.if-ne.false)))
    c.replay_on.ensures.runs
