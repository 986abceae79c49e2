use Rattle.block_lower.proofs.Common.{◌≡◌, take, map, slots_of}
use Rattle.loop_ir.specs.Plain.{step_of}
use Rattle.block_lower.specs.Form.{start}
use Rattle.block_lower.proofs.lower.starts.Given as goal

abbrev pub invariant-loop-state : goal.invariant-loop-state
invariant-loop-state l = map step_of l.steps.items
    ≡ map (start (slots_of l.names) l.down) (take l.state-index l.states)
