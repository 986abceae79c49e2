use Rattle.std.proofs.Common.{length}
use Rattle.op_text.proofs.word_ops.+op_in.Given as goal

abbrev pub decreases-op_in : goal.decreases-op_in
decreases-op_in l = length l.rows.now
