use Rattle.loop_front.proofs.Common.{ap, sym, ◌∙◌, map, ◌≡◌, true, subst, step_of, flow_of}
use Rattle.std.proofs.Common.{rules}
use Rattle.loop_ir.specs.Plain.{steps_of}
use Rattle.loop_front.specs.Front.{steps_flow, front}
use Rattle.loop_front.specs.FlowOfSteps.{IsFlowOf}
use Rattle.loop_front.proofs.Fronts.{front_is}
use Rattle.loop_front.proofs.Built.{steps_popped}
use Rattle.loop_front.proofs.steps.front.Goals as goal

pub loop-step-preserved : goal.loop-step-preserved
loop-step-preserved c = ap (steps_flow (map step_of c.pop.new.self.items)) c.in_ok-flow.ensures
    ∙ sym (steps_popped c.loop-step.steps.items c.pop.new.self.items c.in-Some.step
    (flow_of c.loop-step.flow) c.in-Some.ensures.items) ∙ c.loop-step.invariant

pub returns-clause-does : goal.returns-clause-does
returns-clause-does c = λ rows can.
    let e : front (steps_of c.args.program) ≡ flow_of c.loop-step.flow = search rules in
    let steps = steps_of c.args.program in
    subst (IsFlowOf (λ n q. rows n q ≡ true) steps) e (front_is (λ n q. rows n q ≡ true) steps can)
