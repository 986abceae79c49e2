use Rattle.block_lower.proofs.Common.{◌≡◌, ℕ, ◌+◌, ◌<◌, node_at}
use Rattle.block_lower.proofs.copied.are_same.Given as goal

-- the nodes so far are the same
abbrev pub invariant-loop-k : goal.invariant-loop-k
invariant-loop-k l = (j : ℕ) → l.m.inputs + 1 + j < l.k → node_at l.m.nodes j ≡ node_at l.r.nodes j
