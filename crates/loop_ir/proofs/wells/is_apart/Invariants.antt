use Rattle.std.proofs.Common.{ℕ, ◌<◌}
use Rattle.loop_ir.specs.Spots.{nth_place}
use Rattle.loop_ir.specs.WellFormed.{IsOneValue}
use Rattle.loop_ir.proofs.wells.is_apart.Given as goal

abbrev pub invariant-loop-other : goal.invariant-loop-other
invariant-loop-other l = (k : ℕ) → k < l.other-index → IsOneValue l.p (nth_place l.others k) → ⊥
