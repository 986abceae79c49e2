use Rattle.object_steps.proofs.Common.{arith}
use Rattle.object_steps.proofs.Fewer.{has_more, has_no_more}
use Rattle.object_steps.proofs.loading.has_more_bits.Goals as goal

pub returns-then-n-lt-WIDTH_MAX : goal.returns-then-n-lt-WIDTH_MAX
returns-then-n-lt-WIDTH_MAX c = has_more c.args.value c.args.n

pub returns-else-n-lt-WIDTH_MAX : goal.returns-else-n-lt-WIDTH_MAX
returns-else-n-lt-WIDTH_MAX c = has_no_more c.args.value c.args.n (omega arith) (omega arith)
