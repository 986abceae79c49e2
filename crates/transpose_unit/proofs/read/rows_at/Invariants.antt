use Rattle.transpose_unit.proofs.Common.{◌≡◌, ℕ, ◌+◌, ◌*◌, ◌<◌, get_or, length}
use Rattle.transpose_unit.proofs.read.rows_at.Given as goal

abbrev pub invariant-loop-k : goal.invariant-loop-k
invariant-loop-k l = record {
  size : length l.block ≡ 64;
  below : (k : ℕ) → k < l.k → get_or l.block k 0
      ≡ get_or l.stage ((l.first + k) * l.words + l.w) 0;
}
