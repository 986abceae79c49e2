use Rattle.loop_ir.specs.Outputs.{AreRows}
use Rattle.loop_ir.proofs.rows.out_rows.Given as goal

-- the rows of the outputs so far
abbrev pub invariant-loop-j : goal.invariant-loop-j
invariant-loop-j l = AreRows l.reads l.writes l.inputs l.graph.outs.items l.j l.rows.items
