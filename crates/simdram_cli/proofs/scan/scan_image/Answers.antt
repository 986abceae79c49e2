use Rattle.simdram_cli.proofs.Common.{◌∙◌, err_from_is_err_and, rows_in, found_in, world, parsed}
use Rattle.simdram_cli.proofs.Common.{unloaded, wants}
use Rattle.simdram_cli.specs.declared.words.TheConstants.{IMAGE_MAX}
use Rattle.simdram_cli.specs.Inputs.{image_found, image_of}
use Rattle.simdram_cli.proofs.JobPlans.{image_not_read}
use Rattle.simdram_cli.proofs.Scanning.{image_is, query_asked, query_unasked, scan_file_opens}
use Rattle.simdram_cli.proofs.Sized.{rows_sized}
use Rattle.simdram_cli.proofs.scan.scan_image.Goals as goal

pub returns-in_err-bytes-clause-runs : goal.returns-in_err-bytes-clause-runs
returns-in_err-bytes-clause-runs g c t h =
    let p = err_from_is_err_and c.from_residual.result c.from_residual.ensures.1 in
    rw (p.1, p.2) (unloaded c.args.name.now IMAGE_MAX image_of _ _ (g.F.Folder.view c.args.files.now)
    (g.F.Folder.view c.load.new.files) (g.S.Sink.view c.args.out.now)
    (g.D.Dram.view c.args.chip.now) c.in_err-bytes.ensures.failed)

pub returns-in-Err-clause-runs : goal.returns-in-Err-clause-runs
returns-in-Err-clause-runs g c t h =
    image_not_read _ c.args.name.now c.image_stop.result c.in-Err.no c.in_ok-bytes.bytes.items
    (g.F.Folder.view c.args.files.now) (g.F.Folder.view c.load.new.files)
    (g.S.Sink.view c.args.out.now) (g.D.Dram.view c.args.chip.now) c.in_ok-bytes.ensures.loaded
    (rw c.deref.ensures.value at c.in-Err.ensures.exact) c.image_stop.ensures

pub returns-in_default-clause-runs : goal.returns-in_default-clause-runs
returns-in_default-clause-runs g c t h =
    parsed c.args.name.now IMAGE_MAX image_of _ c.in_ok-bytes.bytes.items
    (image_found (found_in c.in-Ok.image)) _ (g.F.Folder.view c.args.files.now)
    (g.F.Folder.view c.load.new.files) (g.S.Sink.view c.args.out.now)
    (g.D.Dram.view c.args.chip.now) _ c.in_ok-bytes.ensures.loaded
    (image_is c.in_ok-bytes.bytes.items (found_in c.in-Ok.image)
    (rw c.deref.ensures.value at c.in-Ok.ensures.exact)) (wants _ _)

pub ask-requires : goal.ask-requires
ask-requires g c =
    let image = c.in-Ok.image in
    let found = found_in image in
    let rows = rows_in image.geometry image.rows.now in
    let is = c.in-Ok.ensures.spelled.0 in
    record {
      lies = record {
        geometry = is.geometry;
        limit = c.in-Ok.ensures.limit;
        listed = is.listed;
        objects = is.objects;
      };
      rows = rows_sized found (c.in-Ok.ensures.only image.geometry image.table.pairs rows is
          c.in-Ok.ensures.spelled.1);
      query = c.requires.query;
      does = scan_file_opens _ c.open_own.result.programs c.in-Ok-scan_file.ensures (λ p legal e.
          c.open_own.ensures.spelled p legal (c.deref-2.ensures.value ∙ e));
    }

pub returns-in_err-reply-clause-runs : goal.returns-in_err-reply-clause-runs
returns-in_err-reply-clause-runs g c t h =
    let p = err_from_is_err_and c.from_residual-in_err-reply.result
    c.from_residual-in_err-reply.ensures.1 in
    let i = image_found (found_in c.in-Ok.image) in
    let files = g.F.Folder.view c.load.new.files in
    let out = g.S.Sink.view c.args.out.now in
    let does = scan_file_opens _ c.open_own.result.programs c.in-Ok-scan_file.ensures (λ q legal e.
    c.open_own.ensures.spelled q legal (c.deref-2.ensures.value ∙ e)) in
    rw (p.1, p.2) (parsed c.args.name.now IMAGE_MAX image_of _ c.in_ok-bytes.bytes.items i _
    (g.F.Folder.view c.args.files.now) files out (g.D.Dram.view c.args.chip.now) _
    c.in_ok-bytes.ensures.loaded (image_is c.in_ok-bytes.bytes.items (found_in c.in-Ok.image)
    (rw c.deref.ensures.value at c.in-Ok.ensures.exact))
    (query_unasked c.open_own.result.programs t i _ (world files out (g.D.Dram.view c.args.chip.now))
    (world files out (g.D.Dram.view c.ask.new.chip)) does
    (c.in_err-reply.ensures.goes files out t h)))

pub returns-clause-runs : goal.returns-clause-runs
returns-clause-runs g c t h =
    let i = image_found (found_in c.in-Ok.image) in
    let files = g.F.Folder.view c.load.new.files in
    let out = g.S.Sink.view c.args.out.now in
    let chip = g.D.Dram.view c.ask.new.chip in
    let does = scan_file_opens _ c.open_own.result.programs c.in-Ok-scan_file.ensures (λ q legal e.
    c.open_own.ensures.spelled q legal (c.deref-2.ensures.value ∙ e)) in
    parsed c.args.name.now IMAGE_MAX image_of _ c.in_ok-bytes.bytes.items i _
    (g.F.Folder.view c.args.files.now) files out (g.D.Dram.view c.args.chip.now) _
    c.in_ok-bytes.ensures.loaded (image_is c.in_ok-bytes.bytes.items (found_in c.in-Ok.image)
    (rw c.deref.ensures.value at c.in-Ok.ensures.exact))
    (query_asked c.open_own.result.programs t i c.in_ok-reply.reply c.put_answer.result files out
    (g.S.Sink.view c.put_answer.new.out) (g.D.Dram.view c.args.chip.now) chip does
    (c.in_ok-reply.ensures.goes files out t h) (c.put_answer.ensures files chip))
