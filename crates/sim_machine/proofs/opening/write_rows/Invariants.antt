use Rattle.sim_machine.proofs.Common.{◌≡◌, ◌*◌, ◌≤◌, length, flat_map, range_with_len, Kept, Did}
use Rattle.sim_machine.specs.Opening.{bank_writes}
use Rattle.sim_machine.proofs.opening.write_rows.Given as goal

-- the banks so far were written
abbrev pub invariant-loop-bank : goal.invariant-loop-bank
invariant-loop-bank g l =
    let D = g.D.Dram in
    let first = D.view l.initial.dram in
    let now = D.view l.dram in
    record {
      borrow : D.borrow l.dram ≡ D.borrow l.initial.dram;
      kept : Kept first now;
      stage : length l.stage ≡ length l.initial.stage;
      writes : now.counters.writes ≤ l.bank * 65536;
      did : Did (flat_map (bank_writes l.g l.rows) (range_with_len 0 l.bank)) first now;
    }
