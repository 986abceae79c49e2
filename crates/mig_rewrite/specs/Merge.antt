-- Two nodes that are read once each, by the same node, and have two literals in common
use Rattle.std.specs.Prelude.{◌≡◌, ◌≢◌, ℕ, ◌<◌, false, List}
use Rattle.mig_graph.specs.declared.Lit.{Lit}
use Rattle.mig_graph.specs.declared.Node.{Node}
use Rattle.mig_graph.specs.Literals.{IsAnyOrder}
use Rattle.mig_graph.specs.Graph.{Graph, size_of}
use Rattle.mig_graph.specs.Reduced.{reads, node_numbered, CanMerge}
use Rattle.mig_rewrite.specs.declared.merges.Merge.{Merge}

-- the node, not inverted
abbrev pub straight : ℕ → Lit
straight k = record { node = k; inverted = false }

-- the node is M(first, second, z), the first M(x, y, u) and the second M(x, y, v)
pub record IsMerge (g : Graph) (outs : List Lit) (m : Merge) : Type 0 where
  pub above : g.inputs < m.node
  pub below : m.node < size_of g
  pub first_above : g.inputs < m.first
  pub second_above : g.inputs < m.second
  pub differ : m.first ≢ m.second
  pub of_node : IsAnyOrder (node_numbered g m.node) (straight m.first) (straight m.second) m.z
  pub of_first : IsAnyOrder (node_numbered g m.first) m.x m.y m.u
  pub of_second : IsAnyOrder (node_numbered g m.second) m.x m.y m.v
  pub first_once : reads g outs m.first ≡ 1
  pub second_once : reads g outs m.second ≡ 1

-- no two of the node's literals can be merged
abbrev pub NoMerge : Graph → List Lit → Node → Type 0
NoMerge g outs n = (CanMerge g outs n.a n.b → ⊥) × (CanMerge g outs n.a n.c → ⊥)
    × (CanMerge g outs n.b n.c → ⊥)
