use Rattle.std.proofs.Common.{◌≡◌, ◌<◌, ◌⊎◌, ◌-◌, ℕ}
use Rattle.aoi_graph.specs.Gates.{aoi_at}
use Rattle.mig_graph.specs.Inputs.{HasInput}
use Rattle.aoi_graph.specs.declared.AoiNode.TheVariants.{Input}
use Rattle.mig_graph.proofs.gates.input_count.Given as goal

-- the count for the nodes so far
abbrev pub invariant-loop-node : goal.invariant-loop-node
invariant-loop-node l = record {
  each : (k : ℕ) → k < l.node-index → HasInput l.count (aoi_at l.nodes k);
  least : (l.count ≡ 0) ⊎ ((k : ℕ) × (k < l.node-index) × (0 < l.count)
      × (aoi_at l.nodes k ≡ Input (l.count - 1)));
}
