use Rattle.mig_rewrite.proofs.Planning.{plan-merge, was-marked}
use Rattle.mig_rewrite.proofs.plan.planned.Goals as goal

pub returns-in-Some-clause-plan : goal.returns-in-Some-clause-plan
returns-in-Some-clause-plan c = let h = rw c.in-Some.is at c.requires.merge in
    rw c.in-Some.is (plan-merge c.args.m.now.mig c.args.m.now.outs.items c.in-Some.p
    c.in_ok-marks.marks.items c.inputs.ensures.graph h c.in_ok-marks.ensures.closed)

pub returns-in-Some-clause-only : goal.returns-in-Some-clause-only
returns-in-Some-clause-only c = λ k e. c.in_ok-marks.ensures.only k
    (was-marked c.in_ok-marks.marks.items c.in-Some.p.first c.in-Some.p.second k e)
