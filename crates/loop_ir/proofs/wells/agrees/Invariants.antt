use Rattle.std.proofs.Common.{◌≡◌, ℕ, ◌<◌}
use Rattle.loop_ir.specs.Spots.{nth_place}
use Rattle.loop_ir.specs.WellFormed.{IsOneValue}
use Rattle.loop_ir.proofs.wells.agrees.Given as goal

abbrev pub invariant-loop-read : goal.invariant-loop-read
invariant-loop-read l = (k : ℕ) → k < l.read-index → IsOneValue l.write (nth_place l.reads k)
    → l.write.sub ≡ (nth_place l.reads k).sub
