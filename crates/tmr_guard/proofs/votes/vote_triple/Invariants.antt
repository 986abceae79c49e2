use Rattle.tmr_guard.proofs.Common.{◌≡◌, ◌+◌, ◌*◌, ◌≤◌, flat_map, range_with_len, row_events, Kept}
use Rattle.tmr_guard.proofs.Common.{Did, votes}
use Rattle.tmr_guard.proofs.votes.vote_triple.Given as goal

-- the banks so far were voted
abbrev pub invariant-loop-bank : goal.invariant-loop-bank
invariant-loop-bank g l =
    let D = g.D.Dram in
    let first = D.view l.initial.dram in
    let now = D.view l.dram in
    record {
      borrow : D.borrow l.dram ≡ D.borrow l.initial.dram;
      kept : Kept first now;
      aap : now.counters.aap ≤ first.counters.aap + 768 * l.bank;
      did : Did (flat_map (λ bank. row_events bank
          (votes l.x.base l.y.base l.z.base 0 l.x.width)) (range_with_len 0 l.bank)) first now;
    }
