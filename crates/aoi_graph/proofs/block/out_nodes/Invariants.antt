use Rattle.std.proofs.Common.{◌≡◌, ◌*◌, ◌<◌, ℕ, Bool, List, length, take, slice_get, slice_index}
use Rattle.std.proofs.Common.{Some}
use Rattle.op_text.specs.declared.tree.Assign.{Assign}
use Rattle.aoi_graph.specs.Gates.{aoi_values}
use Rattle.op_text.specs.Language.{term}
use Rattle.op_text.specs.Meaning.{term_bit}
use Rattle.aoi_graph.specs.Blocks.{all_weights, all_parts, AreHeld}
use Rattle.aoi_graph.specs.Making.{Grows, IsEnv}
use Rattle.aoi_graph.proofs.block.out_nodes.Given as goal

-- the outputs so far
abbrev pub invariant-loop-a : goal.invariant-loop-a
invariant-loop-a l = record {
  grows : Grows l.initial.nodes.items l.nodes.items (all_weights (take l.a-index l.assigns)) (5
      * all_parts (take l.a-index l.assigns));
  long : length l.outs.items ≡ l.a-index;
  named : (j : ℕ) → j < l.a-index → slice_index l.outs.items j < length l.nodes.items;
  value : (bits : ℕ → Bool) (env : List ℕ → Bool)
      → IsEnv l.initial.nodes.items l.known l.inputs bits env → (j : ℕ) (a : Assign) → j < l.a-index
      → slice_get l.assigns j ≡ Some a → aoi_values l.nodes.items bits (slice_index l.outs.items j)
      ≡ term_bit env (term a.value);
  held : AreHeld l.inputs l.initial.nodes.items → AreHeld l.inputs l.nodes.items;
}
