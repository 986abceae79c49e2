use Rattle.tmr_guard.proofs.Common.{◌≡◌, ◌+◌, ◌*◌, ◌≤◌, take, Kept, Did, vote_events, vote_count}
use Rattle.tmr_guard.proofs.votes.vote_all.Given as goal

-- the triples so far were voted
abbrev pub invariant-loop-k : goal.invariant-loop-k
invariant-loop-k g l =
    let D = g.D.Dram in
    let first = D.view l.initial.dram in
    let now = D.view l.dram in
    record {
      borrow : D.borrow l.dram ≡ D.borrow l.initial.dram;
      kept : Kept first now;
      counted : l.aap ≡ vote_count l.fn.g (take (3 * l.k) l.fn.table.pairs);
      few : l.aap ≤ 12288 * l.k;
      aap : now.counters.aap ≤ first.counters.aap + 12288 * l.k;
      did : Did (vote_events l.fn.g (take (3 * l.k) l.fn.table.pairs)) first now;
    }
