use Rattle.loop_front.proofs.Common.{length}
use Rattle.loop_front.proofs.moves.+put_subs.Given as goal

abbrev pub decreases-put_subs : goal.decreases-put_subs
decreases-put_subs l = length l.subs.now
