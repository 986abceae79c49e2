use Rattle.verify_core.proofs.Common.{◌≡◌, ◌+◌, T, Dcc, D, AreNodes, Keeps, value, edge_at}
use Rattle.verify_core.proofs.Common.{AreCells, ◌<◌, ℕ, Bool, length}
use Rattle.verify_core.specs.Starts.{IsMeant, row_variable}
use Rattle.verify_core.proofs.start.start.Given as goal

abbrev pub invariant-loop-k : goal.invariant-loop-k
invariant-loop-k l = record {
  nodes : AreNodes l.diagram.nodes;
  cells : AreCells l.diagram.nodes l.column;
  keeps : Keeps l.fn.diagram.nodes l.diagram.nodes;
  limits : l.diagram.limits ≡ l.fn.diagram.limits;
  long : length l.column.rows ≡ l.rows;
  tees : (i : ℕ) → i < l.k → (bits : ℕ → Bool)
      → IsMeant l.begin bits → value l.diagram.nodes bits (edge_at l.column (T i)) ≡ bits i;
}

abbrev pub invariant-loop-j : goal.invariant-loop-j
invariant-loop-j l = record {
  nodes : AreNodes l.diagram.nodes;
  cells : AreCells l.diagram.nodes l.column;
  keeps : Keeps l.fn.diagram.nodes l.diagram.nodes;
  limits : l.diagram.limits ≡ l.fn.diagram.limits;
  long : length l.column.rows ≡ l.rows;
  tees : (i : ℕ) → i < 4 → (bits : ℕ → Bool)
      → IsMeant l.begin bits → value l.diagram.nodes bits (edge_at l.column (T i)) ≡ bits i;
  duals : (i : ℕ) → i < l.j → (bits : ℕ → Bool)
      → IsMeant l.begin bits → value l.diagram.nodes bits (edge_at l.column (Dcc i)) ≡ bits (4 + i);
}

abbrev pub invariant-loop-row : goal.invariant-loop-row
invariant-loop-row l = record {
  nodes : AreNodes l.diagram.nodes;
  cells : AreCells l.diagram.nodes l.column;
  keeps : Keeps l.fn.diagram.nodes l.diagram.nodes;
  limits : l.diagram.limits ≡ l.fn.diagram.limits;
  long : length l.column.rows ≡ l.rows;
  tees : (i : ℕ) → i < 4 → (bits : ℕ → Bool)
      → IsMeant l.begin bits → value l.diagram.nodes bits (edge_at l.column (T i)) ≡ bits i;
  duals : (i : ℕ) → i < 2 → (bits : ℕ → Bool)
      → IsMeant l.begin bits → value l.diagram.nodes bits (edge_at l.column (Dcc i)) ≡ bits (4 + i);
  placed : (i : ℕ) → i < l.row → (bits : ℕ → Bool)
      → IsMeant l.begin bits → value l.diagram.nodes bits (edge_at l.column (D i))
      ≡ bits (6 + row_variable l.n l.sources l.results i);
}
