use Rattle.transpose_unit.proofs.Common.{◌≡◌, ℕ, ◌+◌, ◌/◌, ◌%◌, ◌^◌, ◌<◌, get_or, length}
use Rattle.transpose_unit.proofs.stage.block_at.Given as goal

abbrev pub invariant-loop-i : goal.invariant-loop-i
invariant-loop-i l = record {
  size : length l.block ≡ 64;
  below : (k : ℕ) → k < l.i → get_or l.block k 0
      ≡ get_or l.values (l.start + k) 0 / 2 ^ l.first % 2 ^ 64;
}
