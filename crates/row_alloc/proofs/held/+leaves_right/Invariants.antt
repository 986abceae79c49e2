use Rattle.row_alloc.proofs.Common.{length}
use Rattle.row_alloc.proofs.held.+leaves_right.Given as goal

abbrev pub decreases-leaves_right : goal.decreases-leaves_right
decreases-leaves_right l = length l.leave.now
