use Rattle.uprog_ctl.proofs.Common.{◌≡◌, take, length}
use Rattle.uprog_ctl.specs.Cursors.{AreHeads}
use Rattle.uprog_ctl.proofs.cursor.heads_of.Given as goal

abbrev pub invariant-loop-job : goal.invariant-loop-job
invariant-loop-job g l = record {
  count : length l.heads.items ≡ l.job-index;
  are : AreHeads g.F.Fetch.shape (take l.job-index l.jobs) l.heads.items;
}
