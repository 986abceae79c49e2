-- A case's program in both banks.
use Rattle.soak_job.proofs.Common.{◌≡◌, ℕ, zero, suc, ◌*◌, ◌<◌, ◌≤◌, List, [], ◌∷◌, ◌++◌, ap, ◌∙◌}
use Rattle.soak_job.proofs.Common.{subst, sym, arith, append-nil, Result, Ok, Err, OnOk, OnErr, All}
use Rattle.soak_job.proofs.Common.{WIDTH_MAX, Geometry, Banks, Event, after, ChipView, Did, DidRead}
use Rattle.soak_job.proofs.Common.{Grew-more, after-append, StoppedWithin, stopped_before}
use Rattle.soak_job.proofs.Common.{stopped_later, Fits, Microprogram, Shape, bound, trace}
use Rattle.soak_job.proofs.Common.{issues_of, StoppedAmong, wave_events, Queues, in_turn, Ahead}
use Rattle.std.proofs.lemmas.List.Elements.{All-cons, All-nil}
use Rattle.dram_model.specs.Chip.{Grew}
use Rattle.dram_model.specs.View.{with_reads}
use Rattle.uprog_code.specs.declared.binding.Binding.{Binding}
use Rattle.uprog_code.specs.Bound.{Bound, bound_of}
use Rattle.uprog_code.specs.Machine.{HasEnded}
use Rattle.uprog_ctl.specs.Events.{risen}
use Rattle.uprog_ctl.specs.Waves.{BoundJob, CanRun, job_queues}
use Rattle.wave_model.specs.Schedule.{queues}
use Rattle.soak_job.specs.declared.cases.Case.{Case}
use Rattle.soak_job.specs.Layout.{FitsChip, case_queues, issues_at, layout, soak_chip, source_rows}
use Rattle.soak_job.specs.Layout.{case_events, result_rows, source_writes}
use Rattle.soak_job.specs.Cases.{source_kinds}
use Rattle.soak_job.specs.Sums.{in_both_banks}
use Rattle.soak_job.specs.OneCase.{CaseDone, IsProgramOf, WritesMore}
use Rattle.soak_job.proofs.CaseFits.{case_fits}
use Rattle.transpose_unit.proofs.Stopping.{stopped_at, stopped_more}

abbrev job_of : Microprogram → Binding → BoundJob
job_of m b = record { shape = m.shape; code = m.code; binding = b; banks = 2 }

abbrev queues_at : Microprogram → ℕ → Bound → Queues
queues_at m n b = queues (record {
  commands = bound 512 m.shape n b (issues_of (trace m.shape m.code n));
  banks = 2;
} ∷ [])

-- the queues of the one job of a case
pub queues_are : (m : Microprogram) (b : Binding) (c : Case) → b.n ≡ c.n → bound_of b ≡ layout c
    → job_queues 512 (job_of m b ∷ []) ≡ case_queues c m
queues_are m b c e f = ap (λ n. queues_at m n (bound_of b)) e ∙ ap (λ l. queues_at m c.n l) f

-- and a chip of its shape can run that job
pub case_runs : (m : Microprogram) (b : Binding) (c : Case) (g : Geometry) → g ≡ soak_chip
    → FitsChip c → IsProgramOf c m → b.n ≡ c.n → bound_of b ≡ layout c
    → All (CanRun g) (job_of m b ∷ [])
case_runs m b c g chip f is e l =
    let narrow : c.n ≤ WIDTH_MAX = omega (arith, f.narrow) in
    let fits : Fits 512 m.shape c.n (layout c) =
    subst (λ (s : Shape). Fits 512 s c.n (layout c)) (sym is.does.shape) (case_fits c f) in
    let ends : HasEnded (trace m.shape m.code c.n) =
    subst (λ (s : Shape). HasEnded (trace s m.code c.n)) (sym is.does.shape)
    (is.does.code.ends c.n f.some narrow) in
    let runs : CanRun soak_chip (job_of m b) = record {
      legal = is.legal.code;
      some = subst (λ n. 0 < n) (sym e) f.some;
      narrow = subst (λ n. n ≤ WIDTH_MAX) (sym e) narrow;
      fits = subst (λ n. Fits 512 m.shape n (bound_of b)) (sym e)
          (subst (λ (x : Bound). Fits 512 m.shape c.n x) (sym l) fits);
      ends = subst (λ n. HasEnded (trace m.shape m.code n)) (sym e) ends;
      banks = omega arith;
    } in
    subst (λ (x : Geometry). All (CanRun x) (job_of m b ∷ [])) (sym chip)
    (All-cons (CanRun soak_chip) (job_of m b) [] runs (All-nil (CanRun soak_chip)))

-- what one bank of it does
pub own_queue : (m : Microprogram) (c : Case) (bank : ℕ) → bank < 2
    → case_queues c m bank ≡ bound 512 m.shape c.n (layout c) (issues_at c m)
own_queue m c zero l = append-nil (bound 512 m.shape c.n (layout c) (issues_at c m))
own_queue m c (suc zero) l = append-nil (bound 512 m.shape c.n (layout c) (issues_at c m))
own_queue m c (suc (suc bank)) l = absurd (omega arith)

-- the parts of a case together
pub case_done : (state : ℕ) (c : Case) (m : Microprogram) (a b d e : ChipView)
    → Did (source_writes state 0 c.n (source_kinds c.op)) a b
    → WritesMore (2 * source_rows c) a.counters b.counters
    → Did (wave_events in_turn 2 Ahead (case_queues c m)) b d
    → d.counters ≡ risen (in_both_banks c m) b.counters
    → DidRead (2 * result_rows c) d e → CaseDone state c m a e
case_done state c m a b d e wrote writes ran counts read =
    let writes_are : List Event = source_writes state 0 c.n (source_kinds c.op) in
    let wave : List Event = wave_events in_turn 2 Ahead (case_queues c m) in
    record {
      banks = read.banks ∙ ran.banks ∙ ap (after wave) wrote.banks
          ∙ sym (after-append writes_are wave a.banks);
      counters = read.counters ∙ ap (with_reads (2 * result_rows c))
          (counts ∙ ap (risen (in_both_banks c m)) writes);
      faults = read.faults ∙ ran.faults ∙ wrote.faults;
      log = subst (Grew a.log e.log) (append-nil (writes_are ++ wave))
          (Grew-more a.log d.log e.log (writes_are ++ wave) []
          (Grew-more a.log b.log d.log writes_are wave wrote.log ran.log) read.log);
    }

-- where the chip fails in its wave, every bank but the command's stands where those before leave it
pub within_wave : (events : List Event) (qs : Queues) (a b : ChipView)
    → StoppedAmong events qs a b → StoppedWithin 0 events a.banks b.banks
within_wave events qs a b s =
    stopped_at events s.done s.bank s.command a.banks b.banks s.failed s.others

abbrev case_wave : Case → Microprogram → List Event
case_wave c m = wave_events in_turn 2 Ahead (case_queues c m)

-- and so in the writes of its sources, in the wave after them, or in the reading
pub writes_failed : (state : ℕ) (c : Case) (m : Microprogram) (a b : Banks)
    → StoppedWithin 0 (source_writes state 0 c.n (source_kinds c.op)) a b
    → StoppedWithin 2 (case_events state c m) a b
writes_failed state c m a b s = stopped_before 2 (source_writes state 0 c.n (source_kinds c.op))
    (case_wave c m) a b s

after_writes : (state : ℕ) (c : Case) (m : Microprogram) (a b : ChipView) (d : Banks)
    → Did (source_writes state 0 c.n (source_kinds c.op)) a b
    → StoppedWithin 2 (case_wave c m) b.banks d → StoppedWithin 2 (case_events state c m) a.banks d
after_writes state c m a b d wrote s =
    stopped_later 2 (source_writes state 0 c.n (source_kinds c.op)) (case_wave c m) a.banks b.banks
    d wrote.banks s

pub wave_failed : (state : ℕ) (c : Case) (m : Microprogram) (a b : ChipView) (d : Banks)
    → Did (source_writes state 0 c.n (source_kinds c.op)) a b
    → StoppedWithin 0 (case_wave c m) b.banks d
    → StoppedWithin 2 (case_events state c m) a.banks d
wave_failed state c m a b d wrote s =
    after_writes state c m a b d wrote (stopped_more 2 (case_wave c m) b.banks d s)

pub reading_failed : (state : ℕ) (c : Case) (m : Microprogram) (a b d : ChipView) (e : Banks)
    → Did (source_writes state 0 c.n (source_kinds c.op)) a b → Did (case_wave c m) b d
    → StoppedWithin 2 [] d.banks e → StoppedWithin 2 (case_events state c m) a.banks e
reading_failed state c m a b d e wrote ran s =
    after_writes state c m a b e wrote
    (subst (λ (es : List Event). StoppedWithin 2 es b.banks e) (append-nil (case_wave c m))
    (stopped_later 2 (case_wave c m) [] b.banks d.banks e ran.banks s))

pub on_err : {T E P Q : Type 0} (r : Result T E) → OnErr r P → (P → Q) → OnErr r Q
on_err (Ok x) p f = tt
on_err (Err e) p f = f p

-- where it fails, and so whatever it answers
pub on_err_always : {T E P : Type 0} (r : Result T E) → P → OnErr r P
on_err_always (Ok x) p = tt
on_err_always (Err e) p = p

pub on_ok : {T E P Q : Type 0} (r : Result T E) → OnOk r P → (P → Q) → OnOk r Q
on_ok (Ok x) p f = f p
on_ok (Err e) p f = tt
