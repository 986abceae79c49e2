use Rattle.soak_job.proofs.Meeting.{rules_met}
use Rattle.soak_job.proofs.ops.one_statements_meet.Goals as goal

pub returns : goal.returns
returns c op e = rules_met op e
