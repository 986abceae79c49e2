use Rattle.object_alloc.proofs.Common.{◌≡◌, drop, find}
use Rattle.object_alloc.specs.Free.{meets}
use Rattle.object_alloc.specs.Listed.{objects_of}
use Rattle.object_alloc.proofs.table.blocker.Given as goal

-- what is found in what is left is found in all
abbrev pub invariant-loop-pair : goal.invariant-loop-pair
invariant-loop-pair l = find (meets l.base l.k) (objects_of l.pairs)
    ≡ find (meets l.base l.k) (objects_of (drop l.pair-index l.pairs))
