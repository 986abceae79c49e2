use Rattle.transpose_unit.proofs.Common.{◌≡◌, ◌+◌, Kept, Did}
use Rattle.transpose_unit.specs.Stage.{stage_events}
use Rattle.transpose_unit.proofs.write.write_rows.Given as goal

-- the rows so far were written
abbrev pub invariant-loop-k : goal.invariant-loop-k
invariant-loop-k g l =
    let dram = g.D.Dram in
    let first = dram.view l.fn.dram in
    let now = dram.view l.dram in
    record {
      borrow : dram.borrow l.dram ≡ dram.borrow l.fn.dram;
      kept : Kept first now;
      did : Did (stage_events l.fn.g.words l.bank l.base l.k l.stage) first now;
      writes : now.counters.writes ≡ first.counters.writes + l.k;
    }
