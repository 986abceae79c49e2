use Rattle.simdram_cli.proofs.Common.{sym, ◌∙◌, stores, takes, wants, runs_answered}
use Rattle.cli_model.proofs.Doing.{unstored as stops_at_store}
use Rattle.simdram_cli.specs.Init.{empty_image}
use Rattle.simdram_cli.proofs.Stores.{stored, unstored, at_ok, at_err}
use Rattle.simdram_cli.proofs.init.init.Goals as goal

pub returns-in_default : goal.returns-in_default
returns-in_default g c sink chip = wants _ _

pub returns-then-is_err : goal.returns-then-is_err
returns-then-is_err g c sink chip =
    let files = g.F.Folder.view c.args.files.now in
    let now = g.F.Folder.view c.store.new.self in
    let rose = at_err c.store.result (sym c.is_err.ensures.value ∙ c.if-is_err.true)
    c.store.ensures.failed in
    takes _ _ _ _ (stops_at_store c.args.names.now.out.now (empty_image c.args.names.now) _ files
    now sink chip
    (unstored c.args.names.now.out.now files now sink chip c.store.ensures.others rose
    c.store.ensures.counts))

pub returns : goal.returns
returns g c sink chip =
    let files = g.F.Folder.view c.args.files.now in
    let now = g.F.Folder.view c.store.new.self in
    let there = at_ok c.store.result (sym c.is_err.ensures.value ∙ c.if-is_err.false)
    c.store.ensures.stored in
    takes _ _ _ _ (stores c.args.names.now.out.now (empty_image c.args.names.now) _ _ files now sink
    chip _
    (stored c.args.names.now.out.now (empty_image c.args.names.now) files now sink chip
    c.store.ensures.others (rw (c.deref.ensures.value, c.in-Ok.ensures) at there)
    c.store.ensures.counts
    (at_ok c.store.result (sym c.is_err.ensures.value ∙ c.if-is_err.false) c.store.ensures.unfailed)) (runs_answered 0 _ _ tt))
