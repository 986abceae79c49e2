use Rattle.block_lower.proofs.Common.{length}
use Rattle.block_lower.proofs.home.+row_count.Given as goal

abbrev pub decreases-row_count : goal.decreases-row_count
decreases-row_count l = length l.places.now
