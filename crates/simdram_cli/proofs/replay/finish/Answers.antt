use Rattle.simdram_cli.proofs.Common.{sym, ◌∙◌}
use Rattle.simdram_cli.specs.Replay.{replay_line}
use Rattle.simdram_cli.proofs.Replaying.{all_put, not_put, not_stored}
use Rattle.simdram_cli.proofs.Stores.{at_err, at_ok, stored, unstored}
use Rattle.simdram_cli.proofs.replay.finish.Goals as goal

pub returns-then-is_err : goal.returns-then-is_err
returns-then-is_err g c chip =
    let files = g.F.Folder.view c.args.files.now in
    let now = g.F.Folder.view c.store.new.self in
    let out = g.S.Sink.view c.args.out.now in
    let rose = at_err c.store.result (sym c.is_err.ensures.value ∙ c.if-is_err.true)
    c.store.ensures.failed in
    not_stored c.args.name.now c.args.file.now (replay_line c.args.counters) files now out chip
    (unstored c.args.name.now files now out chip c.store.ensures.others rose
    c.store.ensures.counts)

pub returns-then-is_err-2 : goal.returns-then-is_err-2
returns-then-is_err-2 g c chip =
    let files = g.F.Folder.view c.args.files.now in
    let now = g.F.Folder.view c.store.new.self in
    let out = g.S.Sink.view c.args.out.now in
    let there = at_ok c.store.result (sym c.is_err.ensures.value ∙ c.if-is_err.false)
    c.store.ensures.stored in
    let part = at_err c.put.result (sym c.is_err-2.ensures.value ∙ c.if-is_err-2.true)
    c.put.ensures.part in
    let rose = at_err c.put.result (sym c.is_err-2.ensures.value ∙ c.if-is_err-2.true)
    c.put.ensures.failed in
    not_put c.args.name.now c.args.file.now (replay_line c.args.counters) files now out
    (g.S.Sink.view c.put.new.self) chip
    (stored c.args.name.now c.args.file.now files now out chip c.store.ensures.others there
    c.store.ensures.counts
    (at_ok c.store.result (sym c.is_err.ensures.value ∙ c.if-is_err.false) c.store.ensures.unfailed))
    (rw (c.as_slice.ensures.value, c.replay_line-line.ensures) at part) c.put.ensures.counts rose

pub returns : goal.returns
returns g c chip =
    let files = g.F.Folder.view c.args.files.now in
    let now = g.F.Folder.view c.store.new.self in
    let out = g.S.Sink.view c.args.out.now in
    let there = at_ok c.store.result (sym c.is_err.ensures.value ∙ c.if-is_err.false)
    c.store.ensures.stored in
    let whole = at_ok c.put.result (sym c.is_err-2.ensures.value ∙ c.if-is_err-2.false)
    c.put.ensures.sent in
    all_put c.args.name.now c.args.file.now (replay_line c.args.counters) files now out
    (g.S.Sink.view c.put.new.self) chip
    (stored c.args.name.now c.args.file.now files now out chip c.store.ensures.others there
    c.store.ensures.counts
    (at_ok c.store.result (sym c.is_err.ensures.value ∙ c.if-is_err.false) c.store.ensures.unfailed))
    (rw (c.as_slice.ensures.value, c.replay_line-line.ensures) at whole) (at_ok c.put.result (sym c.is_err-2.ensures.value ∙ c.if-is_err-2.false) c.put.ensures.unfailed)
