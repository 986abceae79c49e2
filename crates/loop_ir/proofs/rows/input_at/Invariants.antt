use Rattle.std.proofs.Common.{◌≢◌, ℕ, ◌<◌}
use Rattle.loop_ir.specs.Spots.{nth_place}
use Rattle.loop_ir.proofs.rows.input_at.Given as goal

-- none of the inputs so far is read at the place
abbrev pub invariant-loop-k : goal.invariant-loop-k
invariant-loop-k l = (i : ℕ) → i < l.k → nth_place l.reads i ≢ l.place
