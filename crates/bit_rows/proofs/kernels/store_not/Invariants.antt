use Rattle.std.proofs.Common.{◌≡◌, ℕ, ◌<◌, ◌≤◌, ◌-◌, length, not}
use Rattle.bit_rows.specs.Bits.{word_bit}
use Rattle.bit_rows.proofs.kernels.store_not.Given as goal

-- the words so far are complements
abbrev pub invariant-loop-dst : goal.invariant-loop-dst
invariant-loop-dst l = record {
  within : l.at ≤ length l.dst;
  done : (k : ℕ) → k < l.at → (r : ℕ) → r < 64 → word_bit l.dst k r ≡ not (word_bit l.src k r);
}

abbrev pub decreases-loop-dst : goal.decreases-loop-dst
decreases-loop-dst l = length l.initial.dst - l.at

abbrev pub invariant-loop-i : goal.invariant-loop-i
invariant-loop-i l = (k : ℕ) → k < l.i → (r : ℕ) → r < 64
    → word_bit l.dst k r ≡ not (word_bit l.src k r)
