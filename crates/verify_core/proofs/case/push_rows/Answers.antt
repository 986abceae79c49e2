use Rattle.verify_core.proofs.Common.{assigned, column_of}
use Rattle.verify_core.proofs.Ones.{rows-more}
use Rattle.verify_core.proofs.case.push_rows.Goals as goal

pub loop-k-preserved : goal.loop-k-preserved
loop-k-preserved c = record {
  ones = rows-more
      (column_of c.args.diagram.now.nodes (assigned c.args.path.now) c.args.column.now)
      c.args.ones.now.items c.loop-k.ones.items c.push_one.new.ones.items c.args.first c.loop-k.k
      c.loop-k.invariant.ones c.in_ok-push_one.ensures;
}
