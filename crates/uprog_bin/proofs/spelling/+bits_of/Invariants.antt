use Rattle.uprog_bin.proofs.Common.{length}
use Rattle.uprog_bin.proofs.spelling.+bits_of.Given as goal

abbrev pub decreases-bits_of : goal.decreases-bits_of
decreases-bits_of l = length l.kinds.now
