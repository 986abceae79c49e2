use Rattle.block_lower.proofs.Common.{length, IfOk-weaker}
use Rattle.block_lower.proofs.Counting.{fewer-too}
use Rattle.block_lower.proofs.choice.least_of.Goals as goal

-- what takes no more commands than the first takes no more than the others
pub returns-in-None-clause-fewest : goal.returns-in-None-clause-fewest
returns-in-None-clause-fewest c = IfOk-weaker c.with_fewer.result _ _ (λ r h. record {
  first_too = h.fewer;
  others_too = fewer-too (length r.found.items) (length c.args.first.found.items)
      c.args.others.items h.fewer (rw c.deref.ensures.value at c.in-None.ensures.none.others_too);
}) c.with_fewer.ensures
