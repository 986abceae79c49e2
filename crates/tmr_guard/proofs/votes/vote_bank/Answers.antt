use Rattle.tmr_guard.proofs.Common.{◌≡◌, ℕ, ◌+◌, ◌<◌, ◌++◌, ◌∙◌, arith, row_events, Kept-more}
use Rattle.tmr_guard.proofs.Common.{on_err, row_vote, votes}
use Rattle.tmr_guard.proofs.Rounds.{next_votes, one_row}
use Rattle.tmr_guard.proofs.Stops.{in_turn}
use Rattle.tmr_guard.proofs.votes.vote_bank.Goals as goal

pub loop-k-preserved : goal.loop-k-preserved
loop-k-preserved g c =
    let first = g.D.Dram.view c.args.dram.now in
    let now = g.D.Dram.view c.loop-k.dram in
    let new = g.D.Dram.view c.vote_row.new.dram in
    let kept = c.loop-k.invariant in
    record {
      borrow = c.in_ok-vote_row.ensures.borrow ∙ kept.borrow;
      kept = Kept-more first now new kept.kept c.in_ok-vote_row.ensures.kept;
      aap = omega (arith, c.in_ok-vote_row.ensures.aap, kept.aap);
      did = next_votes c.args.bank c.args.x.base c.args.y.base c.args.z.base c.loop-k.k first now
          new kept.did c.in_ok-vote_row.ensures.did;
    }

pub returns-in_err-vote_row-clause-stopped : goal.returns-in_err-vote_row-clause-stopped
returns-in_err-vote_row-clause-stopped g c =
    let a = c.args in
    let E = λ (j : ℕ). row_events a.bank (votes a.x.base a.y.base a.z.base 0 j) in
    let F = λ (j : ℕ). row_events a.bank (row_vote (a.x.base + j) (a.y.base + j)
    (a.z.base + j)) in
    let step : (j : ℕ) → j < a.x.width → E (j + 1) ≡ E j ++ F j =
    λ j _. one_row a.bank a.x.base a.y.base a.z.base j in
    let l : c.loop-k.k < a.x.width = omega (arith, c.loop-k-test.true, c.from-k-end.ensures) in
    on_err c.from_residual.result (in_turn E F a.x.width step c.loop-k.k l
    (g.D.Dram.view a.dram.now) (g.D.Dram.view c.loop-k.dram)
    (g.D.Dram.view c.vote_row.new.dram) c.loop-k.invariant.did c.loop-k.invariant.kept
    c.in_err-vote_row.ensures.stopped)
