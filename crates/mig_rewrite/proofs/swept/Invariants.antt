use Rattle.mig_rewrite.proofs.Common.{◌≤◌, length, AreNamed, KeepsOutputs}
use Rattle.mig_rewrite.proofs.swept.Given as goal

-- the graph keeps the outputs
abbrev pub invariant-loop-now : goal.invariant-loop-now
invariant-loop-now l = record {
  keeps : KeepsOutputs l.m.mig l.m.outs.items l.now.mig l.now.outs.items;
  named : AreNamed l.now.mig l.now.outs.items;
  count : length l.now.mig.nodes ≤ length l.m.mig.nodes;
}

abbrev pub decreases-loop-now : goal.decreases-loop-now
decreases-loop-now l = length l.now.mig.nodes
