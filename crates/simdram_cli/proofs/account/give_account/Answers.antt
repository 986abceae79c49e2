use Rattle.simdram_cli.proofs.Common.{sym, ◌∙◌, err_from_is_err_and, puts, unput, runs_answered}
use Rattle.simdram_cli.proofs.Stores.{at_ok, at_err}
use Rattle.simdram_cli.proofs.account.give_account.Goals as goal

pub returns-in_err-text : goal.returns-in_err-text
returns-in_err-text g c =
    let p = err_from_is_err_and c.from_residual.result c.from_residual.ensures.1 in
    λ chip. rw (p.1, p.2) (c.in_err-text.ensures.stopped (g.S.Sink.view c.args.out.now) chip)

pub returns-then-is_err : goal.returns-then-is_err
returns-then-is_err g c =
    let is = sym c.is_err.ensures.value ∙ c.if-is_err.true in
    let part = at_err c.put.result is c.put.ensures.part in
    λ chip. c.in_ok-text.ensures.told (g.S.Sink.view c.args.out.now) chip _ _
    (unput c.in_ok-text.text.items _ (g.F.Folder.view c.account_text.new.files)
    (g.S.Sink.view c.args.out.now) (g.S.Sink.view c.put.new.self) chip
    (rw c.deref.ensures.value at part) c.put.ensures.counts
    (at_err c.put.result is c.put.ensures.failed))

pub returns : goal.returns
returns g c =
    let known = at_ok c.put.result (sym c.is_err.ensures.value ∙ c.if-is_err.false)
    c.put.ensures.sent in
    λ chip. c.in_ok-text.ensures.told (g.S.Sink.view c.args.out.now) chip _ _
    (puts c.in_ok-text.text.items _ _ (g.F.Folder.view c.account_text.new.files)
    (g.S.Sink.view c.args.out.now) (g.S.Sink.view c.put.new.self) chip _
    (rw c.deref.ensures.value at known) (at_ok c.put.result (sym c.is_err.ensures.value ∙ c.if-is_err.false) c.put.ensures.unfailed) (runs_answered 0 _ _ tt))
