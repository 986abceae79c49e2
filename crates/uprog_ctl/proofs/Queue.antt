-- The queue of a bank, job by job.
use Rattle.uprog_ctl.proofs.Common.{◌≡◌, ℕ, ◌+◌, ◌<◌, ◌≤◌, List, [], ◌∷◌, ◌++◌, length, map, drop}
use Rattle.uprog_ctl.proofs.Common.{get_or, refl, sym, ap, ◌∙◌, subst, arith, All, nat_lt}
use Rattle.uprog_ctl.proofs.Common.{if◌then◌else◌, get_or-map, length-map, Command, Geometry, Uop}
use Rattle.uprog_ctl.proofs.Common.{Shape, shape_of, Trace, issues_of, bound, bound_of}
use Rattle.uprog_ctl.proofs.Common.{commands_from, trace_is, start_stands, Walk}
use Rattle.std.specs.Prelude.{MatchOption, Option, None, Some}
use Rattle.std.proofs.lemmas.Bool.{lt-ltb, le-ltb}
use Rattle.std.proofs.lemmas.List.{drop_more}
use Rattle.std.proofs.lemmas.List.Elements.{All-get_or, All-head, All-drop}
use Rattle.uprog_code.specs.Commands.{Finds as FindsInCode}
use Rattle.uprog_code.proofs.Seek.{first_walk}
use Rattle.uprog_ctl.specs.declared.waves.Job.{Job}
use Rattle.uprog_ctl.specs.declared.cursor.JobHead.{JobHead}
use Rattle.uprog_ctl.specs.declared.cursor.Cursor.{Cursor}
use Rattle.uprog_ctl.specs.Waves.{BoundJob, bound_job, bound_jobs, CanRun, job_queues}
use Rattle.uprog_ctl.specs.Cursors.{bank_commands, Finds, left_from}
use Rattle.uprog_ctl.specs.Cursors.{StandsInFirst, AreHeads, IsAt}

-- the head that stands beside a job is its entry's
pub head_at : {F : Type 0} (shape : F → Shape) (jobs : List (Job F)) (heads : List JobHead) (i : ℕ)
    (job : Job F) (h : JobHead) → AreHeads shape jobs heads → i < length jobs
    → job ≡ get_or jobs i job → h ≡ get_or heads i h → shape_of h.head ≡ shape job.entry
head_at {F} shape jobs heads i job h are lt e f =
    let of_head : JobHead → Shape = λ x. shape_of x.head in
    let of_job : Job F → Shape = λ x. shape x.entry in
    let long : length heads ≡ length jobs = sym (length-map heads of_head) ∙ ap length are
    ∙ length-map jobs of_job in
    let lt' : i < length heads = omega (arith, long) in
    ap of_head f ∙ sym (get_or-map of_head heads i h (of_head h) lt')
    ∙ ap (λ (xs : List Shape). get_or xs i (of_head h)) are
    ∙ get_or-map of_job jobs i job (of_head h) lt ∙ ap of_job (sym e)

-- the job of a number, as the first of those from it on
pub jobs_from : {F : Type 0} (shape : F → Shape) (code : F → List Uop) (jobs : List (Job F)) (i : ℕ)
    (job : Job F) → i < length jobs → job ≡ get_or jobs i job
    → drop i (bound_jobs shape code jobs)
    ≡ bound_job shape code job ∷ drop (i + 1) (bound_jobs shape code jobs)
jobs_from {F} shape code jobs i job lt e =
    let f : Job F → BoundJob = bound_job shape code in
    let lt' : i < length (map f jobs) = omega (arith, length-map jobs f) in
    drop_more (map f jobs) i (f job) lt'
    ∙ ap (λ (b : BoundJob). b ∷ drop (i + 1) (map f jobs))
    (get_or-map f jobs i job (f job) lt ∙ ap f (sym e))

pub job_can_run : {F : Type 0} (shape : F → Shape) (code : F → List Uop) (g : Geometry)
    (jobs : List (Job F)) (i : ℕ) (job : Job F) → All (CanRun g) (bound_jobs shape code jobs)
    → i < length jobs → job ≡ get_or jobs i job → CanRun g (bound_job shape code job)
job_can_run {F} shape code g jobs i job all lt e =
    let f : Job F → BoundJob = bound_job shape code in
    let lt' : i < length (map f jobs) = omega (arith, length-map jobs f) in
    subst (CanRun g) (get_or-map f jobs i job (f job) lt ∙ ap f (sym e))
    (All-get_or (CanRun g) (map f jobs) i (f job) lt' all)

pub start_left : (rows bank : ℕ) (jobs : List BoundJob)
    → left_from rows bank jobs first_walk ≡ job_queues rows jobs bank
start_left rows bank [] = refl
start_left rows bank (job ∷ jobs) =
    ap (λ (t : Trace). (if nat_lt bank job.banks
    then bound rows job.shape job.binding.n (bound_of job.binding) (issues_of t) else [])
    ++ job_queues rows jobs bank) (trace_is job.shape job.code job.binding.n)

-- a job that isn't the bank's, one that is done, and one of the bank's
pub not_its : (rows bank : ℕ) (job : BoundJob) (w : Walk) → job.banks ≤ bank
    → bank_commands rows bank job w ≡ []
not_its rows bank job w h = rw (le-ltb bank job.banks h) refl

own : (rows bank : ℕ) (job : BoundJob) (w : Walk) → bank < job.banks
    → bank_commands rows bank job w ≡ commands_from rows job.shape job.code job.binding w
own rows bank job w lt = rw (lt-ltb bank job.banks lt) refl

-- what is found in the job's code, as the bank that runs it has it
pub found : (rows bank : ℕ) (job : BoundJob) (w following : Walk) (next : Option Command)
    → bank < job.banks → MatchOption next
    (commands_from rows job.shape job.code job.binding w ≡ [])
    (FindsInCode rows job.shape job.code job.binding w following)
    → MatchOption next (bank_commands rows bank job w ≡ []) (Finds rows bank job w following)
found rows bank job w following None lt none = own rows bank job w lt ∙ none
found rows bank job w following (Some next) lt finds = record {
  first = own rows bank job w lt ∙ finds.first
      ∙ ap (λ (cs : List Command). next ∷ cs) (sym (own rows bank job following lt));
  legal = finds.legal;
  stands = finds.stands;
}

pub cursor_at : (g : Geometry) (all jobs : List BoundJob) (job : BoundJob) (i bank : ℕ)
    (w following : Walk) (left : List Command) (next : Command) (c : Cursor) → i < length all
    → drop i all ≡ job ∷ jobs → Finds g.rows bank job w following next
    → left_from g.rows bank (drop i all) w ≡ left
    → c ≡ record { bank = bank; next = next; job = i; walk = following } → IsAt g.rows all left c
cursor_at g all jobs job i bank w following left next c lt here finds is e =
    let what = sym is ∙ ap (λ (js : List BoundJob). left_from g.rows bank js w) here
    ∙ ap (λ (cs : List Command). cs ++ job_queues g.rows jobs bank) finds.first
    ∙ ap (λ (js : List BoundJob). next ∷ left_from g.rows bank js following) (sym here) in
    subst (λ (d : Cursor). IsAt g.rows all left d) (sym e) (record {
      left = what;
      job = lt;
      legal = finds.legal;
      stands = subst (λ (js : List BoundJob). StandsInFirst js following) (sym here) finds.stands;
    })

pub jobs_long : {F : Type 0} (shape : F → Shape) (code : F → List Uop) (jobs : List (Job F)) (i : ℕ)
    → i < length jobs → i < length (bound_jobs shape code jobs)
jobs_long {F} shape code jobs i lt =
    let f : Job F → BoundJob = bound_job shape code in omega (arith, length-map jobs f)

-- the next job begins at its start
pub next_job : (rows bank : ℕ) (jobs : List BoundJob) (w : Walk) → w ≡ first_walk
    → left_from rows bank jobs w ≡ job_queues rows jobs bank
next_job rows bank jobs w e = ap (left_from rows bank jobs) e ∙ start_left rows bank jobs

first_stands : (g : Geometry) (jobs : List BoundJob) → All (CanRun g) jobs
    → StandsInFirst jobs first_walk
first_stands g [] all = tt
first_stands g (job ∷ jobs) all = let can = All-head (CanRun g) job jobs all in
    start_stands job.shape job.code job.binding.n can.legal can.ends

pub next_stands : (g : Geometry) (jobs : List BoundJob) (i : ℕ) (w : Walk) → All (CanRun g) jobs
    → w ≡ first_walk → StandsInFirst (drop i jobs) w
next_stands g jobs i w all e = subst (StandsInFirst (drop i jobs)) (sym e)
    (first_stands g (drop i jobs) (All-drop (CanRun g) i jobs all))
