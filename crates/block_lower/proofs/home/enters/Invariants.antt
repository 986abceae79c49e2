use Rattle.block_lower.proofs.Common.{◌≡◌, ◌++◌, enters}
use Rattle.std.proofs.Common.{drop}
use Rattle.block_lower.proofs.home.enters.Given as goal

abbrev pub invariant-loop-k : goal.invariant-loop-k
invariant-loop-k l = l.enter.items ++ enters l.k (drop l.k l.reads) ≡ enters 0 l.reads
