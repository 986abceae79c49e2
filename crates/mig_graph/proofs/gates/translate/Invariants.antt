use Rattle.std.proofs.Common.{◌≡◌, ◌≤◌, ◌<◌, ℕ, Bool, length, take}
use Rattle.std.specs.Prelude.{count_by}
use Rattle.mig_graph.specs.Graph.{size_of, value}
use Rattle.mig_graph.specs.Outputs.{lit_at}
use Rattle.aoi_graph.specs.Gates.{aoi_values, is_gate}
use Rattle.mig_graph.proofs.gates.translate.Given as goal

-- the nodes so far have their values
abbrev pub invariant-loop-node : goal.invariant-loop-node
invariant-loop-node l = record {
  inputs : l.mig.inputs ≡ l.inputs;
  long : length l.lits.items ≡ l.node-index;
  named : (k : ℕ) → k < l.node-index → (lit_at l.lits.items k).node < size_of l.mig;
  values : (bits : ℕ → Bool) (k : ℕ) → k < l.node-index
      → value l.mig bits (lit_at l.lits.items k) ≡ aoi_values l.nodes bits k;
  count : length l.mig.nodes ≤ count_by is_gate (take l.node-index l.nodes);
}
