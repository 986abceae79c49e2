use Rattle.sim_machine.proofs.Common.{◌≡◌, ◌+◌, length, map, range_with_len, Write, rows_in, Kept}
use Rattle.sim_machine.proofs.Common.{Did}
use Rattle.sim_machine.proofs.opening.write_bank.Given as goal

-- the rows so far were written
abbrev pub invariant-loop-row : goal.invariant-loop-row
invariant-loop-row g l =
    let D = g.D.Dram in
    let first = D.view l.initial.dram in
    let now = D.view l.dram in
    record {
      borrow : D.borrow l.dram ≡ D.borrow l.initial.dram;
      kept : Kept first now;
      stage : length l.stage ≡ length l.initial.stage;
      writes : now.counters.writes ≡ first.counters.writes + l.row;
      did : Did (map (λ row. Write l.bank row (rows_in l.g l.rows l.bank row))
          (range_with_len 0 l.row)) first now;
    }
