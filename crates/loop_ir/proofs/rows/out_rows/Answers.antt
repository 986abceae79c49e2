use Rattle.std.proofs.Common.{arith}
use Rattle.loop_ir.proofs.Outs.{rows-next}
use Rattle.loop_ir.proofs.rows.out_rows.Goals as goal

pub loop-j-preserved : goal.loop-j-preserved
loop-j-preserved c =
    rows-next c.args.reads.now c.args.writes.now c.inputs-inputs.result c.args.graph.now.outs.items
    c.loop-j.j c.loop-j.rows.items c.keep.new.items.items c.index-lit.result.now
    c.input_at-same.result c.place_at.result c.in_ok-keep.ensures c.loop-j.invariant
    c.place_at.ensures (omega arith) c.index-lit.ensures c.input_at-same.ensures.found
    c.input_at-same.ensures.first c.input_at-same.ensures.none
