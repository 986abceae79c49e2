use Rattle.object_steps.proofs.Common.{◌≡◌, ◌+◌, ◌*◌, ◌≤◌, ℕ, flat_map, range_with_len, Kept, Did}
use Rattle.object_steps.specs.Objects.{filled_in}
use Rattle.object_steps.proofs.filling.fill_object.Given as goal

-- the banks so far are filled
abbrev pub invariant-loop-bank : goal.invariant-loop-bank
invariant-loop-bank g l =
    let D = g.D.Dram in
    let first = D.view l.initial.dram in
    let now = D.view l.dram in
    record {
      borrow : D.borrow l.dram ≡ D.borrow l.initial.dram;
      kept : Kept first now;
      aap : now.counters.aap ≡ first.counters.aap + l.bank * l.o.width;
      did : Did (flat_map (filled_in l.o l.value) (range_with_len 0 l.bank)) first now;
      others : (b : ℕ) → l.bank ≤ b → now.banks b ≡ first.banks b;
    }
