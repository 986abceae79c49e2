use Rattle.std.proofs.Common.{◌≡◌, ℕ, ◌<◌, ◌≤◌, ◌-◌, length, get_or}
use Rattle.bit_rows.specs.Bits.{majority_word}
use Rattle.bit_rows.proofs.kernels.settle3.Given as goal

-- the words so far are majorities, and those that are left are as before
abbrev pub invariant-loop-a : goal.invariant-loop-a
invariant-loop-a l = record {
  within : l.at ≤ length l.a;
  a_done : (k : ℕ) → k < l.at → get_or l.a k 0 ≡ majority_word (get_or l.fn.a k 0)
      (get_or l.fn.b k 0) (get_or l.fn.c k 0);
  b_done : (k : ℕ) → k < l.at → get_or l.b k 0 ≡ majority_word (get_or l.fn.a k 0)
      (get_or l.fn.b k 0) (get_or l.fn.c k 0);
  c_done : (k : ℕ) → k < l.at → get_or l.c k 0 ≡ majority_word (get_or l.fn.a k 0)
      (get_or l.fn.b k 0) (get_or l.fn.c k 0);
  a_left : (k : ℕ) → l.at ≤ k → get_or l.a k 0 ≡ get_or l.fn.a k 0;
  b_left : (k : ℕ) → l.at ≤ k → get_or l.b k 0 ≡ get_or l.fn.b k 0;
  c_left : (k : ℕ) → l.at ≤ k → get_or l.c k 0 ≡ get_or l.fn.c k 0;
}

abbrev pub decreases-loop-a : goal.decreases-loop-a
decreases-loop-a l = length l.initial.a - l.at

abbrev pub invariant-loop-i : goal.invariant-loop-i
invariant-loop-i l = record {
  a_done : (k : ℕ) → k < l.i → get_or l.a k 0 ≡ majority_word (get_or l.fn.a k 0)
      (get_or l.fn.b k 0) (get_or l.fn.c k 0);
  b_done : (k : ℕ) → k < l.i → get_or l.b k 0 ≡ majority_word (get_or l.fn.a k 0)
      (get_or l.fn.b k 0) (get_or l.fn.c k 0);
  c_done : (k : ℕ) → k < l.i → get_or l.c k 0 ≡ majority_word (get_or l.fn.a k 0)
      (get_or l.fn.b k 0) (get_or l.fn.c k 0);
  a_left : (k : ℕ) → l.i ≤ k → get_or l.a k 0 ≡ get_or l.fn.a k 0;
  b_left : (k : ℕ) → l.i ≤ k → get_or l.b k 0 ≡ get_or l.fn.b k 0;
  c_left : (k : ℕ) → l.i ≤ k → get_or l.c k 0 ≡ get_or l.fn.c k 0;
}
