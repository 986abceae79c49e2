use Rattle.std.proofs.Common.{length}
use Rattle.op_lang.proofs.scratch.+greatest_inside.Given as goal

abbrev pub decreases-greatest_inside : goal.decreases-greatest_inside
decreases-greatest_inside l = length l.body.now
