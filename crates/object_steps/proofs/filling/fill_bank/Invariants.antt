use Rattle.object_steps.proofs.Common.{◌≡◌, ◌+◌, map, range_with_len, bit_at, bit_number, Aap, Row}
use Rattle.object_steps.proofs.Common.{Kept, Did}
use Rattle.dram_model.specs.declared.address.Addr.TheVariants as addr
use Rattle.object_steps.proofs.filling.fill_bank.Given as goal

-- the rows so far took their bits
abbrev pub invariant-loop-k : goal.invariant-loop-k
invariant-loop-k g l =
    let D = g.D.Dram in
    let first = D.view l.initial.dram in
    let now = D.view l.dram in
    record {
      borrow : D.borrow l.dram ≡ D.borrow l.initial.dram;
      kept : Kept first now;
      aap : now.counters.aap ≡ first.counters.aap + l.k;
      did : Did (map (λ k. Row l.bank (Aap (addr.C (bit_number (bit_at l.value k)))
          (addr.D (l.o.base + k)))) (range_with_len 0 l.k)) first now;
    }
