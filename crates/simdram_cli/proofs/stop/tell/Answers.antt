use Rattle.simdram_cli.proofs.Common.{sym}
use Rattle.simdram_cli.proofs.stop.tell.Goals as goal

pub returns-in-CannotRead-clause-sent : goal.returns-in-CannotRead-clause-sent
returns-in-CannotRead-clause-sent g c = rw (
  c.in-CannotRead.is,
  sym c.as_bytes.ensures.value,
) c.put_three.ensures.sent

pub returns-in-BadOps-clause-sent : goal.returns-in-BadOps-clause-sent
returns-in-BadOps-clause-sent g c = rw c.in-BadOps.is c.tell_ops.ensures.sent

pub returns-in-ChipFailed-clause-sent : goal.returns-in-ChipFailed-clause-sent
returns-in-ChipFailed-clause-sent g c = rw c.in-ChipFailed.is c.put_three-in-ChipFailed.ensures.sent
