use Rattle.block_lower.proofs.Common.{length}
use Rattle.block_lower.proofs.inputs.+is_let.Given as goal

abbrev pub decreases-is_let : goal.decreases-is_let
decreases-is_let l = length l.lets.now
