use Rattle.std.proofs.Common.{◌≡◌, ◌<◌, ℕ, length, slice_index}
use Rattle.mig_graph.specs.Outputs.{lit_at}
use Rattle.mig_graph.proofs.gates.from_aoi.Given as goal

-- the outputs so far
abbrev pub invariant-loop-o : goal.invariant-loop-o
invariant-loop-o l = record {
  long : length l.outs.items ≡ l.o-index;
  each : (j : ℕ) → j < l.o-index → lit_at l.outs.items j
      ≡ lit_at l.whole.outs.items (slice_index l.g.outs.items j);
}
