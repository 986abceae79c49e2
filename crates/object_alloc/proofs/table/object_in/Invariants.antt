use Rattle.object_alloc.proofs.Common.{◌≡◌, drop}
use Rattle.object_alloc.specs.Listed.{look_up}
use Rattle.object_alloc.proofs.table.object_in.Given as goal

-- what is found in what is left is found in all
abbrev pub invariant-loop-pair : goal.invariant-loop-pair
invariant-loop-pair l = look_up l.pairs l.name ≡ look_up (drop l.pair-index l.pairs) l.name
