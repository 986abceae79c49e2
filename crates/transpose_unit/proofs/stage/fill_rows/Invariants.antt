use Rattle.transpose_unit.proofs.Common.{◌≡◌, ℕ, ◌+◌, ◌*◌, ◌<◌, get_or, bit_at}
use Rattle.transpose_unit.proofs.stage.fill_rows.Given as goal

abbrev pub invariant-loop-w : goal.invariant-loop-w
invariant-loop-w l = (k v c : ℕ) → k < 64 → v < l.w → c < 64
    → bit_at (get_or l.stage (k * l.words + v) 0) c
    ≡ bit_at (get_or l.values (l.start + 64 * v + c) 0) (l.first + k)
