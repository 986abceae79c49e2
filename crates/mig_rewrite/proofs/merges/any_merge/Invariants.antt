use Rattle.mig_rewrite.proofs.Common.{◌<◌, ℕ, node_numbered}
use Rattle.mig_rewrite.specs.Merge.{NoMerge}
use Rattle.mig_rewrite.proofs.merges.any_merge.Given as goal

-- the nodes so far have no merge
abbrev pub invariant-loop-k : goal.invariant-loop-k
invariant-loop-k l = (j : ℕ) → l.m.mig.inputs < j → j < l.k
    → NoMerge l.m.mig l.m.outs.items (node_numbered l.m.mig j)
