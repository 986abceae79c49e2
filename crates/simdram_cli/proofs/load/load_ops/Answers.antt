use Rattle.simdram_cli.proofs.Common.{err_from_is_err_and}
use Rattle.simdram_cli.specs.Inputs.{ops_in}
use Rattle.simdram_cli.specs.declared.words.TheConstants.{OPS_MAX}
use Rattle.simdram_cli.proofs.Reading.{not_read, text_refused, text_unread, ops_refused, ops_parsed}
use Rattle.simdram_cli.proofs.load.load_ops.Goals as goal

pub returns-in_err-text-clause-not_read : goal.returns-in_err-text-clause-not_read
returns-in_err-text-clause-not_read g c =
    let p = err_from_is_err_and c.from_residual.result c.from_residual.ensures.1 in
    rw (p.1, p.2) (not_read ops_in c.args.name.now OPS_MAX _ (g.F.Folder.view c.args.files.now)
    (g.F.Folder.view c.load.new.files) c.in_err-text.ensures.failed)

pub returns-in-Ok-clause-read : goal.returns-in-Ok-clause-read
returns-in-Ok-clause-read g c =
    ops_parsed c.args.name.now c.in_ok-text.text.items _ (g.F.Folder.view c.args.files.now)
    (g.F.Folder.view c.load.new.files) c.in_ok-text.ensures.loaded
    (rw c.deref.ensures.value at c.in-Ok.ensures.parses)

pub returns-in-Err-Fault-clause-not_read : goal.returns-in-Err-Fault-clause-not_read
returns-in-Err-Fault-clause-not_read g c =
    let found = rw (
      c.in-Err-Fault.field-0-is,
      c.deref.ensures.value,
    ) at c.in-Err-Fault.ensures.parses in
    text_refused ops_in c.args.name.now OPS_MAX c.in_ok-text.text.items _
    (g.F.Folder.view c.args.files.now) (g.F.Folder.view c.load.new.files)
    c.in_ok-text.ensures.loaded
    (ops_refused c.in_ok-text.text.items c.in-Err-Fault.fault found)

pub returns-clause-not_read : goal.returns-clause-not_read
returns-clause-not_read g c =
    text_unread ops_in c.args.name.now OPS_MAX c.in_ok-text.text.items
    (g.F.Folder.view c.args.files.now) (g.F.Folder.view c.load.new.files)
    c.in_ok-text.ensures.loaded
