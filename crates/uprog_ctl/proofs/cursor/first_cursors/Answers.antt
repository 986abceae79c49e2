use Rattle.uprog_ctl.proofs.Common.{◌≡◌, ◌+◌, List, [], ◌++◌, ◌∷◌, drop, length, subst, sym, ◌∙◌}
use Rattle.uprog_ctl.proofs.Common.{arith, ap, Command, length_push}
use Rattle.arrayvec.specs.ArrayVec.{ArrayVec}
use Rattle.uprog_ctl.specs.declared.cursor.Cursor.{Cursor}
use Rattle.uprog_ctl.specs.Waves.{bound_jobs, job_queues}
use Rattle.uprog_ctl.specs.Cursors.{AreAt, IsAt, StandsInFirst, left_after, left_from}
use Rattle.uprog_ctl.proofs.Queue.{next_job, next_stands}
use Rattle.uprog_ctl.proofs.Follow.{none_more, some_more}
use Rattle.uprog_ctl.proofs.cursor.first_cursors.Goals as goal
use Rattle.uprog_ctl.proofs.cursor.first_cursors.Goals.{then-move_on, else-move_on}

pub move_on-requires-clause-stands : goal.move_on-requires-clause-stands
move_on-requires-clause-stands g c =
    let jobs = bound_jobs g.F.Fetch.shape g.F.Fetch.code c.args.jobs.now in
    let walk = c.before-cursor.result.walk in
    subst (λ j. StandsInFirst (drop j jobs) walk) (sym c.before-cursor.ensures.job)
    (next_stands c.args.g jobs 0 walk c.requires.jobs c.before-cursor.ensures.walk)

pub loop-bank-preserved : goal.loop-bank-preserved
loop-bank-preserved g c =
    let jobs = bound_jobs g.F.Fetch.shape g.F.Fetch.code c.args.jobs.now in
    let rows = c.args.g.rows in
    let bank = c.loop-bank.bank in
    let kept = c.loop-bank.invariant in
    let cs = c.loop-bank.cursors.items in
    let first = c.before-cursor.result in
    let is = c.before-cursor.ensures in
    let d = c.move_on.new.cursor in
    let whole : left_after rows jobs first ≡ job_queues rows jobs bank =
    ap (λ b. left_from rows b (drop first.job jobs) first.walk) is.bank
    ∙ ap (λ j. left_from rows bank (drop j jobs) first.walk) is.job
    ∙ next_job rows bank jobs first.walk is.walk in
    elim c.if-move_on.branch [
      | then-move_on w ↦
          let at = subst (λ (q : List Command). IsAt rows jobs q d) whole
          (c.move_on.ensures.next w.if-move_on.true) in
          let new : c.if-move_on.cursors.items ≡ cs ++ d ∷ [] =
          ap (λ (v : ArrayVec Cursor). v.items) w.cursors-is ∙ w.push.ensures.items in
          record {
            few = omega (arith, kept.few, length_push cs d, ap length new);
            at = subst (λ (xs : List Cursor). AreAt (bank + 1) rows jobs (job_queues rows jobs) xs)
                (sym new)
                (some_more bank rows jobs (job_queues rows jobs) cs d kept.at
                (c.move_on.ensures.bank ∙ is.bank) at);
          }
      | else-move_on w ↦
          let new = ap (λ (v : ArrayVec Cursor). v.items) w.cursors-is in
          record {
            few = omega (arith, kept.few, ap length new);
            at = subst (λ (xs : List Cursor). AreAt (bank + 1) rows jobs (job_queues rows jobs) xs)
                (sym new)
                (none_more bank rows jobs (job_queues rows jobs) cs kept.at
                (sym whole ∙ c.move_on.ensures.none w.if-move_on.false));
          }
    ]
