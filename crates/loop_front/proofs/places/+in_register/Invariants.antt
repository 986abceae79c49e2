use Rattle.loop_front.proofs.Common.{length}
use Rattle.loop_front.proofs.places.+in_register.Given as goal

abbrev pub decreases-in_register : goal.decreases-in_register
decreases-in_register l = length l.subs.now
