use Rattle.std.proofs.Common.{◌≡◌, ℕ, ◌<◌, ◌≤◌, ◌-◌, length, get_or}
use Rattle.bit_rows.specs.Bits.{majority_word}
use Rattle.bit_rows.proofs.kernels.sense3.Given as goal

-- the words so far are majorities
abbrev pub invariant-loop-out : goal.invariant-loop-out
invariant-loop-out l = record {
  within : l.at ≤ length l.out;
  done : (k : ℕ) → k < l.at → get_or l.out k 0 ≡ majority_word (get_or l.a k 0) (get_or l.b k 0)
      (get_or l.c k 0);
}

abbrev pub decreases-loop-out : goal.decreases-loop-out
decreases-loop-out l = length l.initial.out - l.at

abbrev pub invariant-loop-i : goal.invariant-loop-i
invariant-loop-i l = (k : ℕ) → k < l.i → get_or l.out k 0
    ≡ majority_word (get_or l.a k 0) (get_or l.b k 0) (get_or l.c k 0)
