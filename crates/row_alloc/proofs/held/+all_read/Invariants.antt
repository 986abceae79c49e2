use Rattle.row_alloc.proofs.Common.{length}
use Rattle.row_alloc.proofs.held.+all_read.Given as goal

abbrev pub decreases-all_read : goal.decreases-all_read
decreases-all_read l = length l.lines.now
