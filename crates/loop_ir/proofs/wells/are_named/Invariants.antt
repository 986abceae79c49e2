use Rattle.std.proofs.Common.{ℕ, ◌<◌}
use Rattle.mig_graph.specs.Graph.{size_of}
use Rattle.mig_graph.specs.Outputs.{lit_at}
use Rattle.loop_ir.proofs.wells.are_named.Given as goal

abbrev pub invariant-loop-out : goal.invariant-loop-out
invariant-loop-out l = (k : ℕ) → k < l.out-index → (lit_at l.out-items k).node < size_of l.g.mig
