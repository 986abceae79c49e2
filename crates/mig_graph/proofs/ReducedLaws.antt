-- What is true of reduced graphs
use Rattle.std.specs.Prelude.{◌≡◌, ℕ, ◌<◌, Bool, true, false, List, length, refl}
use Rattle.bit_rows.specs.Bits.{majority}
use Rattle.mig_graph.specs.declared.Lit.{Lit}
use Rattle.mig_graph.specs.Graph.{Graph, node_at, IsGraph}
use Rattle.mig_graph.specs.Reduced.{CanMerge, IsReduced}

-- a graph of `maj` is reduced but for the pairs
pub reduced-but-pairs : (g : Graph) (outs : List Lit) → IsGraph g.inputs g.nodes
    → ((k : ℕ) → k < length g.nodes → CanMerge g outs (node_at g.nodes k).a (node_at g.nodes k).b
    → ⊥) → ((k : ℕ) → k < length g.nodes → CanMerge g outs (node_at g.nodes k).a
    (node_at g.nodes k).c → ⊥) → ((k : ℕ) → k < length g.nodes
    → CanMerge g outs (node_at g.nodes k).b (node_at g.nodes k).c → ⊥) → IsReduced g outs
reduced-but-pairs g outs graph ab ac bc = record {
  three = graph.three;
  form = graph.form;
  shared = graph.shared;
  ab = ab;
  ac = ac;
  bc = bc;
}

-- M(M(x, y, u), M(x, y, v), z) = M(x, y, M(u, v, z))
pub majority-merge : (x y u v z : Bool) → majority (majority x y u) (majority x y v) z
    ≡ majority x y (majority u v z)
unfolding majority
majority-merge true true u v z = refl
majority-merge true false u v z = refl
majority-merge false true u v z = refl
majority-merge false false u v z = refl
