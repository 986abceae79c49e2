use Rattle.block_lower.proofs.Common.{◌≡◌, ◌<◌, ◌≤◌, length, take, Some, IfNone}
use Rattle.std.specs.Prelude.{IfSome, slice_get}
use Rattle.block_lower.specs.declared.choice.Choice.{Choice}
use Rattle.block_lower.specs.Choice.{AreNoFewer}
use Rattle.block_lower.proofs.choice.fewest.Given as goal

-- no choice before this one takes fewer commands than the best so far, or than the first
abbrev pub invariant-loop-k : goal.invariant-loop-k
invariant-loop-k l = record {
  least : l.least ≤ length l.first.found.items;
  within : IfSome l.best (λ b. b < length l.others);
  best : IfSome l.best (λ b. (c : Choice) → slice_get l.others b ≡ Some c
      → length c.found.items ≡ l.least);
  none : IfNone l.best (l.least ≡ length l.first.found.items);
  others : AreNoFewer l.least (take l.k l.others);
}
