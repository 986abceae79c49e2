use Rattle.object_alloc.proofs.Common.{◌≡◌, ℕ, ◌-◌, ◌<◌, ◌≤◌, false}
use Rattle.object_alloc.specs.Free.{are_free}
use Rattle.object_alloc.specs.Listed.{objects_of}
use Rattle.object_alloc.proofs.table.least_base.Given as goal

-- no base below this one is that of free rows
abbrev pub invariant-loop-end : goal.invariant-loop-end
invariant-loop-end l = record {
  within : l.base ≤ l.limit;
  below : (c : ℕ) → c < l.base → are_free l.limit (objects_of l.pairs) l.k c ≡ false;
}

abbrev pub decreases-loop-end : goal.decreases-loop-end
decreases-loop-end l = l.limit - l.base
