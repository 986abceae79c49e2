use Rattle.block_lower.proofs.Common.{length}
use Rattle.block_lower.proofs.inputs.+number_all.Given as goal

abbrev pub decreases-number_all : goal.decreases-number_all
decreases-number_all l = length l.found.now
