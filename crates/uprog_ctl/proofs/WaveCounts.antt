-- A wave raises the counters by the counts of its jobs.
use Rattle.uprog_ctl.proofs.Common.{◌≡◌, ℕ, ◌+◌, ◌*◌, ◌≤◌, Bool, cond, List, [], ◌∷◌, map, refl}
use Rattle.uprog_ctl.proofs.Common.{sym, ap, ◌∙◌, All, count_by, sum_by-cons, Command, Counters}
use Rattle.uprog_ctl.proofs.Common.{Geometry, all_counted, Issue, IssueAap, IssueAp, issues_aap}
use Rattle.uprog_ctl.proofs.Common.{issues_ap, bound_command, bound_of, Picker, PicksLive}
use Rattle.uprog_ctl.proofs.Common.{total_left, whole_picks, picks_whole}
use Rattle.std.specs.Prelude.{sum_by}
use Rattle.std.proofs.lemmas.List.Elements.{All-map, All-weaker}
use Rattle.wave_model.specs.Schedule.{WaveJob}
use Rattle.wave_model.specs.Laws.{is_aap, is_ap, with_commands}
use Rattle.wave_model.proofs.Sums as sums
use Rattle.uprog_ctl.specs.Events.{risen}
use Rattle.uprog_ctl.specs.Waves.{BoundJob, CanRun, issues_in, commands_of, wave_job, job_queues}
use Rattle.uprog_ctl.specs.Waves.{wave_counts, wave_events}

same_kind : (p : Command → Bool) (q : Issue → Bool) (f : Issue → Command)
    → ((i : Issue) → p (f i) ≡ q i) → (is : List Issue) → count_by p (map f is) ≡ count_by q is
same_kind p q f same [] = refl
same_kind p q f same (i ∷ is) =
    sum_by-cons (λ x. cond (p x) 1 0) (f i) (map f is)
    ∙ ap (λ t. cond t 1 0 + count_by p (map f is)) (same i)
    ∙ ap (λ n. cond (q i) 1 0 + n) (same_kind p q f same is)
    ∙ sym (sum_by-cons (λ x. cond (q x) 1 0) i is)

module _ (rows : ℕ) where
  twice : (job : BoundJob) → count_by is_aap (commands_of rows job)
      ≡ count_by issues_aap (issues_in job)
  twice job = same_kind is_aap issues_aap
      (bound_command rows job.shape job.binding.n (bound_of job.binding)) same (issues_in job)
    where
      same : (i : Issue)
          → is_aap (bound_command rows job.shape job.binding.n (bound_of job.binding) i)
          ≡ issues_aap i
      same (IssueAap x y) = refl
      same (IssueAp x) = refl

  once : (job : BoundJob) → count_by is_ap (commands_of rows job)
      ≡ count_by issues_ap (issues_in job)
  once job = same_kind is_ap issues_ap
      (bound_command rows job.shape job.binding.n (bound_of job.binding)) same (issues_in job)
    where
      same : (i : Issue)
          → is_ap (bound_command rows job.shape job.binding.n (bound_of job.binding) i)
          ≡ issues_ap i
      same (IssueAap x y) = refl
      same (IssueAp x) = refl

  job_sums : (p : Command → Bool) (q : Issue → Bool)
      → ((job : BoundJob) → count_by p (commands_of rows job) ≡ count_by q (issues_in job))
      → (jobs : List BoundJob)
      → sum_by (λ (j : WaveJob). j.banks * count_by p j.commands) (map (wave_job rows) jobs)
      ≡ sum_by (λ (j : BoundJob). j.banks * count_by q (issues_in j)) jobs
  job_sums p q same [] = refl
  job_sums p q same (job ∷ jobs) =
      sum_by-cons (λ (j : WaveJob). j.banks * count_by p j.commands) (wave_job rows job)
      (map (wave_job rows) jobs)
      ∙ ap (λ n. job.banks * n
      + sum_by (λ (j : WaveJob). j.banks * count_by p j.commands) (map (wave_job rows) jobs)) (same
      job)
      ∙ ap (λ n. job.banks * count_by q (issues_in job) + n) (job_sums p q same jobs)
      ∙ sym (sum_by-cons (λ (j : BoundJob). j.banks * count_by q (issues_in j)) job jobs)

  pub wave_risen : {S : Type 0} (p : Picker S) (g : Geometry) (s : S) (jobs : List BoundJob)
      (c : Counters) → PicksLive p → All (CanRun g) jobs
      → all_counted (wave_events p g.banks s (job_queues rows jobs)) c ≡ risen (wave_counts jobs) c
  wave_risen p g s jobs c ok all =
      let qs = job_queues rows jobs in
      let few = All-weaker (CanRun g) (λ (j : BoundJob). j.banks ≤ g.banks) (λ j h. h.banks) jobs
      all in
      sums.wave_counts g.banks (whole_picks p g.banks s qs) (map (wave_job rows) jobs) c
      (picks_whole p g.banks (total_left g.banks qs) s qs ok refl)
      (All-map (λ (j : WaveJob). j.banks ≤ g.banks) (wave_job rows) jobs few)
      ∙ ap (λ m. with_commands m
      (sum_by (λ (j : WaveJob). j.banks * count_by is_ap j.commands) (map (wave_job rows) jobs)) c)
      (job_sums is_aap issues_aap twice jobs)
      ∙ ap (λ n. with_commands
      (sum_by (λ (j : BoundJob). j.banks * count_by issues_aap (issues_in j)) jobs) n c)
      (job_sums is_ap issues_ap once jobs)
