use Rattle.transpose_unit.proofs.Common.{◌≡◌, ◌+◌, ◌*◌, length, flat_map, range_with_len, size_of}
use Rattle.transpose_unit.proofs.Common.{padded_to, Kept, Did}
use Rattle.transpose_unit.proofs.Segments.{bank_events}
use Rattle.transpose_unit.proofs.write.write_object.Given as goal

-- the banks so far were written
abbrev pub invariant-loop-bank : goal.invariant-loop-bank
invariant-loop-bank g l =
    let dram = g.D.Dram in
    let first = dram.view l.fn.dram in
    let now = dram.view l.dram in
    record {
      borrow : dram.borrow l.dram ≡ dram.borrow l.fn.dram;
      kept : Kept first now;
      did : Did (flat_map (bank_events l.fn.g l.base l.n
          (padded_to (size_of l.fn.g (length l.values)) l.values)) (range_with_len 0 l.bank))
          first now;
      writes : now.counters.writes ≡ first.counters.writes + l.n * l.bank;
    }
