use Rattle.std.proofs.Common.{take}
use Rattle.op_text.specs.Spelling.{Each, HasState}
use Rattle.op_text.proofs.names.see_states.Given as goal

abbrev pub invariant-loop-state : goal.invariant-loop-state
invariant-loop-state l = Each HasState (take l.state-index l.states)
