use Rattle.uprog_ctl.proofs.Common.{◌≡◌, ◌+◌, List, ◌∷◌, ◌++◌, drop, sym, ap, ◌∙◌, subst, Command}
use Rattle.uprog_ctl.proofs.Common.{shape_of}
use Rattle.uprog_ctl.specs.declared.cursor.Cursor.{Cursor}
use Rattle.uprog_ctl.specs.declared.cursor.JobHead.{JobHead}
use Rattle.uprog_ctl.specs.Waves.{BoundJob, bound_job, bound_jobs, job_queues}
use Rattle.uprog_ctl.specs.Cursors.{left_after, left_from, StandsInFirst}
use Rattle.uprog_ctl.proofs.Queue.{head_at, jobs_from, job_can_run, jobs_long, cursor_at, next_job}
use Rattle.uprog_ctl.proofs.Queue.{next_stands}
use Rattle.uprog_ctl.proofs.cursor.move_on.Goals as goal

pub seek-requires-clause-run : goal.seek-requires-clause-run
seek-requires-clause-run g c =
    job_can_run g.F.Fetch.shape g.F.Fetch.code c.args.g c.args.jobs.now c.loop-i.i
    c.index-jobs-i.result c.requires.jobs c.loop-i-test.true c.index-jobs-i.is

pub seek-requires-clause-head : goal.seek-requires-clause-head
seek-requires-clause-head g c =
    ap (λ (h : JobHead). shape_of h.head) (sym c.index-heads-i.is)
    ∙ head_at g.F.Fetch.shape c.args.jobs.now c.args.heads.now c.loop-i.i c.index-jobs-i.result
    c.index-heads-i.result c.requires.heads c.loop-i-test.true c.index-jobs-i.is c.index-heads-i.is

pub seek-requires-clause-stands : goal.seek-requires-clause-stands
seek-requires-clause-stands g c =
    let here = jobs_from g.F.Fetch.shape g.F.Fetch.code c.args.jobs.now c.loop-i.i
    c.index-jobs-i.result c.loop-i-test.true c.index-jobs-i.is in
    subst (λ (js : List BoundJob). StandsInFirst js c.loop-i.cursor.walk) here
    c.loop-i.invariant.stands

pub returns-in-Some-clause-next : goal.returns-in-Some-clause-next
returns-in-Some-clause-next g c = λ e.
    let shape = g.F.Fetch.shape in
    let code = g.F.Fetch.code in
    let jobs = bound_jobs shape code c.args.jobs.now in
    let job = bound_job shape code c.index-jobs-i.result in
    let here = jobs_from shape code c.args.jobs.now c.loop-i.i c.index-jobs-i.result
    c.loop-i-test.true c.index-jobs-i.is in
    cursor_at c.args.g jobs (drop (c.loop-i.i + 1) jobs) job c.loop-i.i c.args.cursor.now.bank
    c.loop-i.cursor.walk c.seek.new.walk (left_after c.args.g.rows jobs c.args.cursor.now)
    c.in-Some.next _ (jobs_long shape code c.args.jobs.now c.loop-i.i c.loop-i-test.true) here
    c.in-Some.ensures c.loop-i.invariant.left
    (ap (λ b. let d : Cursor = record {
      bank = b;
      next = c.in-Some.next;
      job = c.loop-i.i;
      walk = c.seek.new.walk;
    } in d) c.loop-i.invariant.bank)

pub loop-i-preserved : goal.loop-i-preserved
loop-i-preserved g c =
    let shape = g.F.Fetch.shape in
    let code = g.F.Fetch.code in
    let jobs = bound_jobs shape code c.args.jobs.now in
    let job = bound_job shape code c.index-jobs-i.result in
    let rows = c.args.g.rows in
    let bank = c.args.cursor.now.bank in
    let more = drop (c.loop-i.i + 1) jobs in
    let here = jobs_from shape code c.args.jobs.now c.loop-i.i c.index-jobs-i.result
    c.loop-i-test.true c.index-jobs-i.is in
    let now : left_from rows bank (job ∷ more) c.loop-i.cursor.walk
    ≡ left_after rows jobs c.args.cursor.now =
    ap (λ (js : List BoundJob). left_from rows bank js c.loop-i.cursor.walk) (sym here)
    ∙ c.loop-i.invariant.left in
    let gone : left_from rows bank (job ∷ more) c.loop-i.cursor.walk ≡ job_queues rows more bank =
    ap (λ (cs : List Command). cs ++ job_queues rows more bank) c.in_default.ensures in
    record {
      bank = c.loop-i.invariant.bank;
      stands = next_stands c.args.g jobs (c.loop-i.i + 1) c.start-cursor.result c.requires.jobs
          c.start-cursor.ensures;
      left = next_job rows bank more c.start-cursor.result c.start-cursor.ensures ∙ sym gone ∙ now;
    }
