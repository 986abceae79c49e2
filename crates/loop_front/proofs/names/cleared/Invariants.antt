use Rattle.loop_front.proofs.Common.{◌≡◌, map, filter, range_with_len, flow_of, names}
use Rattle.loop_front.proofs.names.cleared.Given as goal

-- of the first registers those that stand in its forms
abbrev pub invariant-loop-r : goal.invariant-loop-r
invariant-loop-r l = l.registers.items
    ≡ filter (λ r. names r (flow_of l.flow)) (map (λ r. r) (range_with_len 0 l.r))
