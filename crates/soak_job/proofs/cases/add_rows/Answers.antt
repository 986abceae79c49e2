use Rattle.soak_job.proofs.Common.{◌∙◌, length, sym, ap, arith, append-nil, true, false, not}
use Rattle.soak_job.proofs.Counting.{cases_more}
use Rattle.soak_job.proofs.cases.add_rows.Goals as goal
use Rattle.soak_job.proofs.cases.add_rows.Goals.{then-is_none, else-is_none}

pub loop-row-preserved : goal.loop-row-preserved
loop-row-preserved c = elim c.if-is_none.branch [
  | then-is_none w ↦ record {
    cases = cases_more (λ r. r.1.op) c.args.rows.now c.loop-row.row-index _ _
        c.loop-row.cases.items c.if-is_none.cases.items c.second_kind.result true (omega arith)
        c.second_kind.ensures (c.is_none.ensures ∙ ap not w.if-is_none.true)
        (ap (λ cs. cs.items) w.cases-is ∙ w.add_widths.ensures.cases) c.loop-row.invariant.cases;
    many = let same = ap (λ cs. length cs.items) w.cases-is in
        omega (arith, same, w.add_widths.ensures.len, c.loop-row.invariant.many);
  }
  | else-is_none w ↦ record {
    cases = cases_more (λ r. r.1.op) c.args.rows.now c.loop-row.row-index _ _
        c.loop-row.cases.items c.if-is_none.cases.items c.second_kind.result false (omega arith)
        c.second_kind.ensures (c.is_none.ensures ∙ ap not w.if-is_none.false)
        (ap (λ cs. cs.items) w.cases-is ∙ sym (append-nil c.loop-row.cases.items))
        c.loop-row.invariant.cases;
    many = let same = ap (λ cs. length cs.items) w.cases-is in
        omega (arith, same, c.loop-row.invariant.many);
  }
]
