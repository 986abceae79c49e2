use Rattle.object_alloc.proofs.Common.{◌≡◌, ◌-◌, ◌++◌, ◌≤◌, take, drop, vec_len, vec_capacity}
use Rattle.object_alloc.specs.Listed.{without}
use Rattle.object_alloc.proofs.table.take_away.Given as goal

-- what is kept so far, and of the rest what is to be kept, is what is kept of all
abbrev pub invariant-loop-k : goal.invariant-loop-k
invariant-loop-k l = record {
  within : l.k ≤ vec_len l.pairs;
  kept : take l.k l.pairs.items ++ without (drop l.k l.pairs.items) l.name
      ≡ without l.initial.pairs.items l.name;
  capacity : vec_capacity l.pairs ≡ vec_capacity l.initial.pairs;
}

abbrev pub decreases-loop-k : goal.decreases-loop-k
decreases-loop-k l = vec_len l.pairs - l.k
