use Rattle.block_lower.proofs.Common.{length}
use Rattle.block_lower.proofs.home.+leave.Given as goal

abbrev pub decreases-leave : goal.decreases-leave
decreases-leave l = length l.writes.now
