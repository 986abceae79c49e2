use Rattle.transpose_unit.proofs.Common.{◌≡◌, ℕ, ◌+◌, ◌*◌, ◌%◌, ◌^◌, ◌<◌, get_or, length}
use Rattle.transpose_unit.proofs.read.read_block.Given as goal

abbrev pub invariant-loop-c : goal.invariant-loop-c
invariant-loop-c l = record {
  size : length l.numbers ≡ 64;
  small : (c : ℕ) → c < l.c → get_or l.lower c 0 < 2 ^ 64;
  below : (c : ℕ) → c < l.c → get_or l.numbers c 0
      ≡ (get_or l.lower c 0 + 2 ^ 64 * get_or l.upper c 0) % 2 ^ l.n;
}
