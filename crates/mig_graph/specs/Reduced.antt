-- Graphs that no rule makes smaller
use Rattle.std.specs.Prelude.{◌≡◌, ◌≢◌, ℕ, ◌-◌, ◌<◌, ◌≤◌, ◌==◌, Bool, false, ◌&&◌, ◌||◌, List, []}
use Rattle.std.specs.Prelude.{◌∷◌, ◌++◌, length, count_by, flat_map}
use mathlib.Core.Bool.{beq}
use Rattle.mig_graph.specs.declared.Lit.{Lit}
use Rattle.mig_graph.specs.declared.Node.{Node}
use Rattle.mig_graph.specs.Literals.{inversions, NamesThree, SameThree}
use Rattle.mig_graph.specs.Graph.{Graph, node_at}

-- the three literals of a node
abbrev pub literals : Node → List Lit
literals n = n.a ∷ n.b ∷ n.c ∷ []

-- how often a node is read, by nodes and outputs together
abbrev pub reads : Graph → List Lit → ℕ → ℕ
reads g outs k = count_by (λ l. l.node == k) (flat_map literals g.nodes ++ outs)

-- whether a node has just this literal, complement and all
abbrev pub has_literal : Node → Lit → Bool
has_literal n l = (((n.a.node == l.node) && beq n.a.inverted l.inverted)
    || ((n.b.node == l.node) && beq n.b.inverted l.inverted))
    || ((n.c.node == l.node) && beq n.c.inverted l.inverted)

-- how many literals of the first are literals of the second
abbrev pub in_common : Node → Node → ℕ
in_common m n = count_by (has_literal n) (literals m)

-- the node with this number
abbrev pub node_numbered : Graph → ℕ → Node
node_numbered g k = node_at g.nodes (k - g.inputs - 1)

-- both are nodes that are read once and not inverted, and they have two literals in common
pub record CanMerge (g : Graph) (outs : List Lit) (p q : Lit) : Type 0 where
  pub p_straight : p.inverted ≡ false
  pub q_straight : q.inverted ≡ false
  pub differ : p.node ≢ q.node
  pub p_node : g.inputs < p.node
  pub q_node : g.inputs < q.node
  pub p_once : reads g outs p.node ≡ 1
  pub q_once : reads g outs q.node ≡ 1
  pub common : 2 ≤ in_common (node_numbered g p.node) (node_numbered g q.node)

-- No rule makes the graph smaller: each node has three inputs and at most one complement, none
-- stands twice, and no two that are read once have two literals in common.
pub record IsReduced (g : Graph) (outs : List Lit) : Type 0 where
  pub three : (k : ℕ) → k < length g.nodes → NamesThree (node_at g.nodes k)
  pub form : (k : ℕ) → k < length g.nodes → inversions (node_at g.nodes k) ≤ 1
  pub shared : (j k : ℕ) → j < length g.nodes → k < length g.nodes
      → SameThree (node_at g.nodes j) (node_at g.nodes k) → j ≡ k
  pub ab : (k : ℕ) → k < length g.nodes → CanMerge g outs (node_at g.nodes k).a
      (node_at g.nodes k).b → ⊥
  pub ac : (k : ℕ) → k < length g.nodes → CanMerge g outs (node_at g.nodes k).a
      (node_at g.nodes k).c → ⊥
  pub bc : (k : ℕ) → k < length g.nodes → CanMerge g outs (node_at g.nodes k).b
      (node_at g.nodes k).c → ⊥
