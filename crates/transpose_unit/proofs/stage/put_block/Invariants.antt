use Rattle.transpose_unit.proofs.Common.{◌≡◌, ◌≢◌, ℕ, ◌+◌, ◌*◌, ◌<◌, get_or}
use Rattle.transpose_unit.proofs.stage.put_block.Given as goal

abbrev pub invariant-loop-k : goal.invariant-loop-k
invariant-loop-k l = record {
  own : (j : ℕ) → j < l.k → get_or l.stage (j * l.words + l.w) 0 ≡ get_or l.block j 0;
  others : (j v : ℕ) → v < l.words → v ≢ l.w → get_or l.stage (j * l.words + v) 0
      ≡ get_or l.initial.stage (j * l.words + v) 0;
}
