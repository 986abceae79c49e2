use Rattle.block_lower.proofs.Common.{length}
use Rattle.block_lower.proofs.home.+stand_in.Given as goal

abbrev pub decreases-stand_in : goal.decreases-stand_in
decreases-stand_in l = length l.places.now
