use Rattle.verify_core.proofs.Common.{◌≡◌, ◌+◌, D, AreNodes, Keeps, column_of, ◌<◌, ℕ, Bool}
use Rattle.verify_core.proofs.compare.first_difference.Given as goal

abbrev pub invariant-loop-k : goal.invariant-loop-k
invariant-loop-k l = record {
  nodes : AreNodes l.diagram.nodes;
  keeps : Keeps l.fn.diagram.nodes l.diagram.nodes;
  limits : l.diagram.limits ≡ l.fn.diagram.limits;
  agree : (bits : ℕ → Bool) (i : ℕ) → i < l.k
      → column_of l.fn.diagram.nodes bits l.own (D (l.first + i))
      ≡ column_of l.fn.diagram.nodes bits l.made (D (l.first + i));
}
