use Rattle.std.proofs.Common.{◌≡◌, ℕ, ◌<◌, length}
use Rattle.loop_ir.specs.Spots.{nth_place}
use Rattle.loop_ir.specs.WellFormed.{IsOneValue}
use Rattle.loop_ir.proofs.wells.all_agree.Given as goal

abbrev pub invariant-loop-write : goal.invariant-loop-write
invariant-loop-write l = (j k : ℕ) → j < l.write-index → k < length l.reads
    → IsOneValue (nth_place l.writes j) (nth_place l.reads k)
    → (nth_place l.writes j).sub ≡ (nth_place l.reads k).sub
