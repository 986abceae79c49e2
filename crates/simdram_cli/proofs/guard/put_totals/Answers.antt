use Rattle.simdram_cli.proofs.Common.{sym, ◌∙◌, total_line, vote_line}
use Rattle.simdram_cli.proofs.Guarding.{puts_done, puts_half}
use Rattle.simdram_cli.proofs.Stores.{at_err, at_ok}
use Rattle.simdram_cli.proofs.guard.put_totals.Goals as goal

pub returns-then-is_err-2-clause-goes : goal.returns-then-is_err-2-clause-goes
returns-then-is_err-2-clause-goes g c files =
    let first = at_ok c.put.result (sym c.is_err.ensures.value ∙ c.if-is_err.false)
    c.put.ensures.sent in
    let failed = sym c.is_err-2.ensures.value ∙ c.if-is_err-2.true in
    let part = at_err c.put_total.result failed c.put_total.ensures.part in
    let rose = at_err c.put_total.result failed c.put_total.ensures.rose in
    puts_half (vote_line c.args.outcome.votes c.args.flips)
    (total_line (g.D.Dram.view c.args.chip.now).counters c.args.outcome.refused) files
    (g.S.Sink.view c.args.out.now) (g.S.Sink.view c.put.new.self)
    (g.S.Sink.view c.put_total.new.out) (g.D.Dram.view c.args.chip.now)
    (rw (c.as_slice.ensures.value, c.vote_line-votes.ensures) at first) (at_ok c.put.result (sym c.is_err.ensures.value ∙ c.if-is_err.false) c.put.ensures.unfailed) part
    c.put_total.ensures.faults rose

pub returns-clause-goes : goal.returns-clause-goes
returns-clause-goes g c files =
    let first = at_ok c.put.result (sym c.is_err.ensures.value ∙ c.if-is_err.false)
    c.put.ensures.sent in
    let second = at_ok c.put_total.result (sym c.is_err-2.ensures.value ∙ c.if-is_err-2.false)
    c.put_total.ensures.sent in
    puts_done (vote_line c.args.outcome.votes c.args.flips)
    (total_line (g.D.Dram.view c.args.chip.now).counters c.args.outcome.refused) files
    (g.S.Sink.view c.args.out.now) (g.S.Sink.view c.put.new.self)
    (g.S.Sink.view c.put_total.new.out) (g.D.Dram.view c.args.chip.now)
    (rw (c.as_slice.ensures.value, c.vote_line-votes.ensures) at first) (at_ok c.put.result (sym c.is_err.ensures.value ∙ c.if-is_err.false) c.put.ensures.unfailed) second
    (at_ok c.put_total.result (sym c.is_err-2.ensures.value ∙ c.if-is_err-2.false) c.put_total.ensures.unfailed)
