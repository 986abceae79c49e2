use Rattle.simdram_cli.proofs.Common.{sym, err_from_is_err_and, rows_in, found_in, parsed, unloaded}
use Rattle.simdram_cli.proofs.Common.{unread}
use Rattle.simdram_cli.specs.Flips.{guarded_image_of}
use Rattle.simdram_cli.specs.Inputs.{image_found}
use Rattle.simdram_cli.specs.declared.words.TheConstants.{IMAGE_MAX}
use Rattle.simdram_cli.proofs.Guarding.{image_is, image_not, strange}
use Rattle.simdram_cli.proofs.Sized.{rows_sized}
use Rattle.simdram_cli.proofs.guard.guard_image.Goals as goal

pub returns-in_err-bytes-clause-runs : goal.returns-in_err-bytes-clause-runs
returns-in_err-bytes-clause-runs g c =
    let p = err_from_is_err_and c.from_residual.result c.from_residual.ensures.1 in
    rw (p.1, p.2) (unloaded c.args.names.now.image.now IMAGE_MAX guarded_image_of _ _
    (g.F.Folder.view c.args.files.now)
    (g.F.Folder.view c.load.new.files) (g.S.Sink.view c.args.out.now)
    (g.D.Dram.view c.args.chip.now) c.in_err-bytes.ensures.failed)

pub returns-in-Err-clause-runs : goal.returns-in-Err-clause-runs
returns-in-Err-clause-runs g c =
    unread c.args.names.now.image.now IMAGE_MAX guarded_image_of _ _
    (g.F.Folder.view c.args.files.now)
    (g.F.Folder.view c.load.new.files) (g.S.Sink.view c.args.out.now)
    (g.D.Dram.view c.args.chip.now)
    (image_not c.args.names.now.image.now c.in_ok-bytes.bytes.items c.in-Err.no _
    (g.F.Folder.view c.args.files.now) (g.F.Folder.view c.load.new.files)
    c.in_ok-bytes.ensures.loaded (rw c.deref.ensures.value at c.in-Err.ensures.exact)
    c.image_stop.ensures)

pub returns-in-Some-clause-runs : goal.returns-in-Some-clause-runs
returns-in-Some-clause-runs g c =
    unread c.args.names.now.image.now IMAGE_MAX guarded_image_of _ _
    (g.F.Folder.view c.args.files.now)
    (g.F.Folder.view c.load.new.files) (g.S.Sink.view c.args.out.now)
    (g.D.Dram.view c.args.chip.now)
    (strange c.args.names.now.image.now c.in_ok-bytes.bytes.items (found_in c.in-Ok.image)
    c.in-Some.k (g.F.Folder.view c.args.files.now) (g.F.Folder.view c.load.new.files)
    c.in_ok-bytes.ensures.loaded (rw c.deref.ensures.value at c.in-Ok.ensures.exact)
    (sym c.in-Some.ensures))

pub work_on_flips-requires : goal.work_on_flips-requires
work_on_flips-requires g c =
    let image = c.in-Ok.image in
    let found = found_in image in
    let rows = rows_in image.geometry image.rows.now in
    let is = c.in-Ok.ensures.spelled.0 in
    record {
      lies = record {
        geometry = is.geometry;
        limit = c.in-Ok.ensures.limit;
        listed = is.listed;
        objects = is.objects;
      };
      rows = rows_sized found (c.in-Ok.ensures.only image.geometry image.table.pairs rows is
          c.in-Ok.ensures.spelled.1);
      is = is;
      triples = sym c.in-None.ensures;
      plain = c.requires.plain;
      short = c.requires.short;
      few = c.requires.few;
    }

pub returns-clause-runs : goal.returns-clause-runs
returns-clause-runs g c =
    parsed c.args.names.now.image.now IMAGE_MAX guarded_image_of _ c.in_ok-bytes.bytes.items
    (image_found (found_in c.in-Ok.image)) _ (g.F.Folder.view c.args.files.now)
    (g.F.Folder.view c.load.new.files) (g.S.Sink.view c.args.out.now)
    (g.D.Dram.view c.args.chip.now) _ c.in_ok-bytes.ensures.loaded
    (image_is c.in_ok-bytes.bytes.items (found_in c.in-Ok.image)
    (rw c.deref.ensures.value at c.in-Ok.ensures.exact) (sym c.in-None.ensures))
    c.work_on_flips.ensures.runs
