use Rattle.verify_core.proofs.Common.{◌∙◌, arith, Word, assigned, column_of}
use Rattle.verify_core.proofs.Steps.{numbers-next}
use Rattle.verify_core.proofs.case.numbers.Goals as goal

pub loop-kind-preserved : goal.loop-kind-preserved
loop-kind-preserved c = record {
  all = c.push.ensures.items
      ∙ numbers-next c.args.n c.args.start c.loop-kind.kind-index c.loop-kind.next
      c.rows_of_kind.result c.number.result c.args.kinds.now Word
      (column_of c.args.diagram.now.nodes (assigned c.args.path.now) c.args.column.now)
      c.loop-kind.all.items c.loop-kind-test.true c.loop-kind.invariant.all
      c.loop-kind.invariant.next c.rows_of_kind.ensures c.number.ensures;
  next = omega (arith, c.loop-kind.invariant.next);
}
