use Rattle.loop_front.proofs.Common.{◌≡◌, ◌++◌, map, take, drop}
use Rattle.loop_front.specs.Front.{placed}
use Rattle.loop_front.proofs.places.place_all.Given as goal

-- the first places have their indices in registers
abbrev pub invariant-loop-k : goal.invariant-loop-k
invariant-loop-k l = l.places.items ≡ map (placed l.subs) (take l.k l.initial.places.items)
    ++ drop l.k l.initial.places.items
