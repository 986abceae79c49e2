use Rattle.uprog_ctl.proofs.Counting.{counted-issues}
use Rattle.uprog_ctl.proofs.controller.counters_rise_by_counts.Goals as goal

pub returns : goal.returns
returns c = counted-issues
