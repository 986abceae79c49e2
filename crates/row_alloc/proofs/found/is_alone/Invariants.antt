use Rattle.row_alloc.proofs.Common.{◌≡◌, ◌≢◌, ◌<◌, ℕ, Some}
use Rattle.row_alloc.specs.Rows.{out_at}
use Rattle.row_alloc.proofs.found.is_alone.Given as goal

-- the outputs so far stand in other rows
abbrev pub invariant-loop-i : goal.invariant-loop-i
invariant-loop-i l = (h k : ℕ) → h < l.i → (out_at l.outs h).same ≡ Some k
    → (out_at l.outs l.j).same ≢ Some k
