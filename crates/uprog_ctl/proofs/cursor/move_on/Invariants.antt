use Rattle.uprog_ctl.proofs.Common.{◌≡◌, drop}
use Rattle.uprog_ctl.specs.Waves.{bound_jobs}
use Rattle.uprog_ctl.specs.Cursors.{left_after, left_from, StandsInFirst}
use Rattle.uprog_ctl.proofs.cursor.move_on.Given as goal

-- the jobs before this one have nothing left
abbrev pub invariant-loop-i : goal.invariant-loop-i
invariant-loop-i g l =
    let jobs = bound_jobs g.F.Fetch.shape g.F.Fetch.code l.jobs in
    record {
      bank : l.cursor.bank ≡ l.fn.cursor.bank;
      stands : StandsInFirst (drop l.i jobs) l.cursor.walk;
      left : left_from l.g.rows l.fn.cursor.bank (drop l.i jobs) l.cursor.walk
          ≡ left_after l.g.rows jobs l.fn.cursor;
    }
