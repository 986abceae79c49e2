use Rattle.simdram_cli.proofs.Common.{err_from_is_err_and}
use Rattle.simdram_cli.specs.Queries.{query_in}
use Rattle.simdram_cli.specs.declared.words.TheConstants.{QUERY_MAX}
use Rattle.simdram_cli.proofs.Reading.{not_read, text_refused, text_unread}
use Rattle.simdram_cli.proofs.Scanning.{query_parsed, query_refused}
use Rattle.simdram_cli.proofs.scan.load_query.Goals as goal

pub returns-in_err-text-clause-not_read : goal.returns-in_err-text-clause-not_read
returns-in_err-text-clause-not_read g c =
    let p = err_from_is_err_and c.from_residual.result c.from_residual.ensures.1 in
    rw (p.1, p.2) (not_read query_in c.args.name.now QUERY_MAX _ (g.F.Folder.view c.args.files.now)
    (g.F.Folder.view c.load.new.files) c.in_err-text.ensures.failed)

pub returns-in-Ok-clause-read : goal.returns-in-Ok-clause-read
returns-in-Ok-clause-read g c =
    query_parsed c.args.name.now c.in_ok-text.text.items _ (g.F.Folder.view c.args.files.now)
    (g.F.Folder.view c.load.new.files) c.in_ok-text.ensures.loaded
    (rw c.deref.ensures.value at c.in-Ok.ensures)

pub returns-in-Err-Fault-clause-not_read : goal.returns-in-Err-Fault-clause-not_read
returns-in-Err-Fault-clause-not_read g c =
    let found = rw (
      c.in-Err-Fault.field-0-is,
      c.deref.ensures.value,
    ) at c.in-Err-Fault.ensures in
    text_refused query_in c.args.name.now QUERY_MAX c.in_ok-text.text.items _
    (g.F.Folder.view c.args.files.now) (g.F.Folder.view c.load.new.files)
    c.in_ok-text.ensures.loaded
    (query_refused c.in_ok-text.text.items c.in-Err-Fault.fault found)

pub returns-clause-not_read : goal.returns-clause-not_read
returns-clause-not_read g c =
    text_unread query_in c.args.name.now QUERY_MAX c.in_ok-text.text.items
    (g.F.Folder.view c.args.files.now) (g.F.Folder.view c.load.new.files)
    c.in_ok-text.ensures.loaded
