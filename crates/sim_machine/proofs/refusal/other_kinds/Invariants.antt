use Rattle.sim_machine.proofs.Common.{◌≡◌, ◌++◌, take, option_to_list}
use Rattle.sim_machine.proofs.refusal.other_kinds.Given as goal

abbrev pub invariant-loop-kind : goal.invariant-loop-kind
invariant-loop-kind l = l.kinds.items ≡ option_to_list l.head.second
    ++ take l.kind-index l.head.sources.items
