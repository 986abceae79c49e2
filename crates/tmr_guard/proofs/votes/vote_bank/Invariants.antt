use Rattle.tmr_guard.proofs.Common.{◌≡◌, ◌+◌, ◌*◌, row_events, Kept, Did, votes}
use Rattle.tmr_guard.proofs.votes.vote_bank.Given as goal

-- the rows so far were voted
abbrev pub invariant-loop-k : goal.invariant-loop-k
invariant-loop-k g l =
    let D = g.D.Dram in
    let first = D.view l.initial.dram in
    let now = D.view l.dram in
    record {
      borrow : D.borrow l.dram ≡ D.borrow l.initial.dram;
      kept : Kept first now;
      aap : now.counters.aap ≡ first.counters.aap + 6 * l.k;
      did : Did (row_events l.bank (votes l.x.base l.y.base l.z.base 0 l.k)) first now;
    }
