use Rattle.row_alloc.proofs.Common.{◌<◌, ℕ}
use Rattle.row_alloc.specs.Rows.{out_at}
use Rattle.row_alloc.proofs.found.are_named.Given as goal

-- the outputs so far
abbrev pub invariant-loop-j : goal.invariant-loop-j
invariant-loop-j l = (i : ℕ) → i < l.j → (out_at l.outs i).lit.node < l.nodes
