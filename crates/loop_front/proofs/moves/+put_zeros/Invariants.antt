use Rattle.loop_front.proofs.Common.{length}
use Rattle.loop_front.proofs.moves.+put_zeros.Given as goal

abbrev pub decreases-put_zeros : goal.decreases-put_zeros
decreases-put_zeros l = length l.registers.now
