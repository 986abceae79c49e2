use Rattle.scan_model.proofs.Meant.{text_meets}
use Rattle.scan_query.proofs.ops.scan_ops.Goals as goal

pub returns-clause-meets : goal.returns-clause-meets
returns-clause-meets c = rw c.in_ok-ops.ensures text_meets
