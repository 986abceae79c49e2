use Rattle.mig_rewrite.proofs.Common.{◌-◌, ◌++◌, take, flat_map, literals}
use Rattle.mig_rewrite.specs.Counts.{AreCounts}
use Rattle.mig_rewrite.proofs.tally.count_all.Given as goal

-- the literals of the nodes so far are counted
abbrev pub invariant-loop-k : goal.invariant-loop-k
invariant-loop-k l = record {
  counts : AreCounts l.counts (flat_map literals (take (l.k - l.m.mig.inputs - 1) l.m.mig.nodes));
}

-- and the outputs so far
abbrev pub invariant-loop-l : goal.invariant-loop-l
invariant-loop-l l = record {
  counts : AreCounts l.counts (flat_map literals l.m.mig.nodes ++ take l.l-index l.m.outs.items);
}
