use Rattle.word_lower.proofs.Common.{◌≡◌, take}
use Rattle.word_lower.proofs.graphs.made.Given as goal

-- the nodes so far
abbrev pub invariant-loop-node : goal.invariant-loop-node
invariant-loop-node l = record {
  graph : l.mig ≡ record { inputs = l.inputs; nodes = take l.node-index l.nodes };
}
