use Rattle.verify_core.proofs.Common.{◌≡◌, AreNodes}
use Rattle.verify_core.proofs.tries.tried_case.Given as goal

abbrev pub invariant-loop-k : goal.invariant-loop-k
invariant-loop-k g l = record {
  nodes : AreNodes l.diagram.nodes;
  limits : l.diagram.limits ≡ l.fn.diagram.limits;
}
