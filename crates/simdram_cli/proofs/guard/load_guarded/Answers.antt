use Rattle.simdram_cli.proofs.Common.{map, sym, err_from_is_err_and, view_of}
use Rattle.simdram_cli.proofs.Guarding.{all_short, guarded_unread, long_refused, short_read}
use Rattle.simdram_cli.proofs.guard.load_guarded.Goals as goal

pub returns-in_err-script-clause-not_read : goal.returns-in_err-script-clause-not_read
returns-in_err-script-clause-not_read g c =
    let p = err_from_is_err_and c.from_residual.result c.from_residual.ensures.1 in
    rw (p.1, p.2) (guarded_unread c.args.name.now _ (g.F.Folder.view c.args.files.now)
    (g.F.Folder.view c.load_script.new.files) c.in_err-script.ensures.not_read)

pub returns-in-Some-clause-not_read : goal.returns-in-Some-clause-not_read
returns-in-Some-clause-not_read g c =
    long_refused c.args.name.now (map view_of c.in_ok-script.script.items) c.in-Some.k
    (g.F.Folder.view c.args.files.now) (g.F.Folder.view c.load_script.new.files)
    (sym (rw c.deref.ensures.value at c.in-Some.ensures.value)) c.in_ok-script.ensures.read

pub returns-clause-short : goal.returns-clause-short
returns-clause-short g c =
    all_short (map view_of c.in_ok-script.script.items)
    (sym (rw c.deref.ensures.value at c.in-None.ensures.value))

pub returns-clause-read : goal.returns-clause-read
returns-clause-read g c =
    short_read c.args.name.now (map view_of c.in_ok-script.script.items)
    (g.F.Folder.view c.args.files.now) (g.F.Folder.view c.load_script.new.files)
    (sym (rw c.deref.ensures.value at c.in-None.ensures.value)) c.in_ok-script.ensures.read
