use Rattle.op_lang.proofs.Counts.{rows_of_kind}
use Rattle.op_lang.proofs.scratch.rows_of.Goals as goal

pub returns : goal.returns
returns c =
    rows_of_kind c.args.kind c.args.op.now c.count_names.result c.greatest_inside.result
    c.capped_sum.result
    (let h = rw (c.deref.ensures.value, c.deref-2.ensures.value) at c.count_names.ensures in
    h) (let h = rw c.deref-3.ensures.value at c.greatest_inside.ensures in
    h) c.capped_sum.ensures
