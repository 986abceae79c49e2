use Rattle.std.proofs.Common.{◌≡◌}
use Rattle.bdd.specs.Graphs.{IsNamed, value}
use Rattle.bdd.specs.Paths.{assigned}
use Rattle.bdd.proofs.path.evaluate.Given as goal

abbrev pub invariant-loop-at : goal.invariant-loop-at
invariant-loop-at l = record {
  named : IsNamed l.nodes l.at;
  same : value l.nodes (assigned l.path) l.at ≡ value l.nodes (assigned l.path) l.fn.e;
}

abbrev pub decreases-loop-at : goal.decreases-loop-at
decreases-loop-at l = l.at.node
