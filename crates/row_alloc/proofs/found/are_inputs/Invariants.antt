use Rattle.row_alloc.proofs.Common.{◌≡◌, ◌<◌, ℕ, Some}
use Rattle.row_alloc.specs.Rows.{out_at}
use Rattle.row_alloc.proofs.found.are_inputs.Given as goal

-- the outputs so far
abbrev pub invariant-loop-j : goal.invariant-loop-j
invariant-loop-j l = (i k : ℕ) → i < l.j → (out_at l.outs i).same ≡ Some k → k < l.inputs
