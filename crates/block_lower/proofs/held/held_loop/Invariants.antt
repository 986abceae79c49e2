use Rattle.block_lower.proofs.Common.{◌≤◌, IfSome, block_of}
use Rattle.block_lower.specs.Held.{IsLoopFor}
use Rattle.block_lower.proofs.held.held_loop.Given as goal

-- the best so far takes fewer commands than asked for
abbrev pub invariant-loop-k : goal.invariant-loop-k
invariant-loop-k l = record {
  least : l.least ≤ l.most;
  held : IfSome l.best (IsLoopFor l.place l.start (block_of l.body) l.most);
}
