use Rattle.block_lower.proofs.Common.{◌≤◌, length, subst, inr, IfSome, AreNamed, KeepsOutputs}
use Rattle.block_lower.proofs.Counting.{told-none}
use Rattle.block_lower.proofs.Fitting.{unfit_first}
use Rattle.block_lower.proofs.choice.counted.Goals as goal

-- no body is made of a right offer only where none is made of the graph itself
pub returns-in_default-2-clause-none : goal.returns-in_default-2-clause-none
returns-in_default-2-clause-none c =
    let g = c.args.first.now.mig in
    let outs = c.args.first.now.outs.items in
    let h = c.in-Some.graph in
    let is = c.in-Some.is in
    let kept = c.in_ok-graph.ensures in
    let keeps = subst (λ o. IfSome o (λ r. KeepsOutputs g outs r.mig r.outs.items)) is kept.keeps in
    let named = subst (λ o. IfSome o (λ r. AreNamed r.mig r.outs.items)) is kept.named in
    let count = subst (λ o. IfSome o (λ r. length r.mig.nodes ≤ length g.nodes)) is kept.count in
    let unfit = told-none c.in_ok-found.field-0 c.in_ok-found.ensures.none
    c.in_default-2.not-Some in
    λ right. inr (unfit_first c.args.reads.now c.args.writes.now g outs h.mig h.outs.items keeps named
    count unfit)
