use Rattle.row_alloc.proofs.Common.{◌≡◌, ◌≢◌, ◌<◌, ℕ, Some}
use Rattle.row_alloc.specs.Rows.{out_at}
use Rattle.row_alloc.proofs.found.are_alone.Given as goal

-- none of the outputs so far stands in the row of an earlier one
abbrev pub invariant-loop-j : goal.invariant-loop-j
invariant-loop-j l = (h i k : ℕ) → h < i → i < l.j → (out_at l.outs h).same ≡ Some k
    → (out_at l.outs i).same ≢ Some k
