use Rattle.block_lower.proofs.Common.{length}
use Rattle.block_lower.proofs.inputs.+find_all.Given as goal

abbrev pub decreases-find_all : goal.decreases-find_all
decreases-find_all l = length l.assigns.now
