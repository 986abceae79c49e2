-- The nodes that the outputs reach
use Rattle.std.specs.Prelude.{◌≡◌, ℕ, ◌<◌, Bool, true, List, length}
use Rattle.mig_graph.specs.declared.Lit.{Lit}
use Rattle.mig_graph.specs.declared.Node.{Node}
use Rattle.mig_graph.specs.Graph.{Graph, size_of}
use Rattle.mig_graph.specs.Outputs.{lit_at}
use Rattle.mig_graph.specs.Reduced.{node_numbered}
use Rattle.mig_rewrite.specs.Plan.{is_marked}

-- the node's operands are marked
abbrev pub ReadsMarked : List Bool → Node → Type 0
ReadsMarked marks n = (is_marked marks n.a.node ≡ true) × (is_marked marks n.b.node ≡ true)
    × (is_marked marks n.c.node ≡ true)

-- the outputs' nodes are marked, and with each node its operands
pub record IsClosed (g : Graph) (outs : List Lit) (marks : List Bool) : Type 0 where
  pub long : length marks ≡ size_of g
  pub outputs : (k : ℕ) → k < length outs → is_marked marks (lit_at outs k).node ≡ true
  pub closed : (k : ℕ) → g.inputs < k → k < size_of g → is_marked marks k ≡ true
      → ReadsMarked marks (node_numbered g k)

-- an output reaches the node: wherever the outputs' nodes are marked, and with each node its
-- operands, it is marked
abbrev pub IsReached : Graph → List Lit → ℕ → Type 0
IsReached g outs k = (marks : List Bool) → IsClosed g outs marks → is_marked marks k ≡ true

-- each node is reached by an output
abbrev pub AreReached : Graph → List Lit → Type 0
AreReached g outs = (k : ℕ) → g.inputs < k → k < size_of g → IsReached g outs k
