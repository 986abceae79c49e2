use Rattle.std.proofs.Common.{length, ◌*◌, ◌+◌}
use Rattle.op_lang.proofs.scratch.+kinds.Given as goal

abbrev pub decreases-kind_after : goal.decreases-kind_after
decreases-kind_after l = 3 * length l.before.now

abbrev pub decreases-kind_in : goal.decreases-kind_in
decreases-kind_in l = 3 * length l.before.now + 2

abbrev pub decreases-kind_given : goal.decreases-kind_given
decreases-kind_given l = 3 * length l.before.now + 1
