use Rattle.uprog_ctl.proofs.Common.{◌≤◌, length}
use Rattle.uprog_ctl.specs.Waves.{bound_jobs, job_queues}
use Rattle.uprog_ctl.specs.Cursors.{AreAt}
use Rattle.uprog_ctl.proofs.cursor.first_cursors.Given as goal

abbrev pub invariant-loop-bank : goal.invariant-loop-bank
invariant-loop-bank g l =
    let jobs = bound_jobs g.F.Fetch.shape g.F.Fetch.code l.jobs in
    record {
      few : length l.cursors.items ≤ l.bank;
      at : AreAt l.bank l.g.rows jobs (job_queues l.g.rows jobs) l.cursors.items;
    }
