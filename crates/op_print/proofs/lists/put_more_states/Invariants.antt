use Rattle.std.proofs.Common.{◌≡◌, ◌++◌, take}
use Rattle.std.specs.List.{flat_map}
use Rattle.op_print.specs.Canonical.{after_comma, state_text}
use Rattle.op_print.proofs.lists.put_more_states.Given as goal

abbrev pub invariant-loop-state : goal.invariant-loop-state
invariant-loop-state l =
    l.out.items ≡ l.fn.out.items ++ flat_map (after_comma state_text)
    (take l.state-index l.states)
