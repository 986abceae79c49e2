use Rattle.std.proofs.Common.{◌*◌, ℕ, Bool, List, length, take}
use Rattle.aoi_graph.specs.Blocks.{after_lets, all_weights, all_parts, AreHeld}
use Rattle.aoi_graph.specs.Making.{Grows, AreBelow, IsEnv}
use Rattle.aoi_graph.proofs.block.let_nodes.Given as goal

-- the nodes and names of the lets so far
abbrev pub invariant-loop-a : goal.invariant-loop-a
invariant-loop-a l = record {
  grows : Grows l.initial.nodes.items l.nodes.items (all_weights (take l.a-index l.lets)) (5
      * all_parts (take l.a-index l.lets));
  known : AreBelow l.known (length l.nodes.items);
  value : (bits : ℕ → Bool) (env : List ℕ → Bool)
      → IsEnv l.initial.nodes.items l.initial.known l.inputs bits env
      → IsEnv l.nodes.items l.known l.inputs bits (after_lets env (take l.a-index l.lets));
  held : AreHeld l.inputs l.initial.nodes.items → AreHeld l.inputs l.nodes.items;
}
