use Rattle.loop_front.proofs.Common.{◌≡◌, map, length, step_of, flow_of}
use Rattle.loop_front.specs.Front.{steps_flow}
use Rattle.loop_front.proofs.steps.front.Given as goal

-- the flow of the steps that are left, before this one, is that of all
abbrev pub invariant-loop-step : goal.invariant-loop-step
invariant-loop-step l = steps_flow (map step_of l.steps.items) (flow_of l.flow)
    ≡ steps_flow (map step_of l.initial.steps.items) (flow_of l.initial.flow)

abbrev pub decreases-loop-step : goal.decreases-loop-step
decreases-loop-step l = length l.steps.items
