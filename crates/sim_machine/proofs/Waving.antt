-- A wave of the jobs that bbops are granted.
use Rattle.sim_machine.proofs.Common.{◌≡◌, ℕ, zero, suc, ◌<◌, ◌≤◌, Bool, true, false, cond, List}
use Rattle.sim_machine.proofs.Common.{[], ◌∷◌, ◌++◌, length, map, take, drop, get_or, refl, sym}
use Rattle.sim_machine.proofs.Common.{◌∙◌, ap, subst, arith, Some, nat_lt, slice_get}
use Rattle.sim_machine.proofs.Common.{AllByRecursion, Geometry, Command, Banks, Event, ChipView}
use Rattle.sim_machine.proofs.Common.{Did, FailedBelow, BoundJob, CanRun, StoppedAmong, wave_job}
use Rattle.sim_machine.proofs.Common.{WaveJob, Queues, Turn}
use Rattle.std.proofs.Common.{◌≢◌}
use Rattle.std.specs.Prelude.{nat_eq}
use Rattle.dram_model.specs.Chip.{after, happens, bank_of, on_bank}
use Rattle.dram_model.specs.Chip.Event.{Row}
use Rattle.dram_model.specs.Events.{row_events}
use Rattle.uprog_ctl.specs.Waves.{job_queues, wave_events}
use Rattle.wave_model.specs.Schedule.{events_of_picks, in_turn, picked, queues, last_state}
use Rattle.wave_model.specs.Schedule.{whole_picks, without_next}

-- what holds of all holds of one
pub all_at : {X Y : Type 0} (P : Y → Type 0) (f : X → Y) (xs : List X) (i : ℕ) (x : X)
    → i < length xs → x ≡ get_or xs i x → AllByRecursion P (map f xs) → P (f x)
all_at P f [] i x h e all = absurd (omega (arith, h))
all_at P f (y ∷ xs) zero x h e all = subst (λ z. P (f z)) (sym e) all.0
all_at P f (y ∷ xs) (suc i) x h e all = all_at P f xs i x (omega (arith, h)) e all.1

pub can_run_there : (g g' : Geometry) (jobs : List BoundJob) → g' ≡ g
    → AllByRecursion (CanRun g) jobs → AllByRecursion (CanRun g') jobs
can_run_there g g' jobs e all =
    subst (λ (x : Geometry). AllByRecursion (CanRun x) jobs) (sym e) all

-- the jobs are those of the bbops
pub wave_did : (g g' : Geometry) (turn : Turn) (jobs : List BoundJob) (granted : List WaveJob)
    (old new : ChipView) → g' ≡ g → map (wave_job g.rows) jobs ≡ granted
    → Did (wave_events in_turn g'.banks turn (job_queues g'.rows jobs)) old new
    → Did (wave_events in_turn g.banks turn (queues granted)) old new
wave_did g g' turn jobs granted old new e f h =
    subst (λ js. Did (wave_events in_turn g.banks turn (queues js)) old new) f
    (subst (λ (x : Geometry). Did (wave_events in_turn x.banks turn (job_queues x.rows jobs))
    old new) e h)

pub wave_turn : (g g' : Geometry) (turn following : Turn) (jobs : List BoundJob) (granted : List
    WaveJob)
    → g' ≡ g → map (wave_job g.rows) jobs ≡ granted
    → following ≡ last_state in_turn g'.banks turn (job_queues g'.rows jobs)
    → following ≡ last_state in_turn g.banks turn (queues granted)
wave_turn g g' turn following jobs granted e f h =
    h ∙ ap (λ (x : Geometry). last_state in_turn x.banks turn (job_queues x.rows jobs)) e
    ∙ ap (λ js. last_state in_turn g.banks turn (queues js)) f

pub wave_stopped : (g g' : Geometry) (turn : Turn) (jobs : List BoundJob) (granted : List WaveJob)
    (old new : ChipView) → g' ≡ g → map (wave_job g.rows) jobs ≡ granted
    → StoppedAmong (wave_events in_turn g'.banks turn (job_queues g'.rows jobs))
    (job_queues g'.rows jobs) old new
    → StoppedAmong (wave_events in_turn g.banks turn (queues granted)) (queues granted) old new
wave_stopped g g' turn jobs granted old new e f h =
    subst (λ js. StoppedAmong (wave_events in_turn g.banks turn (queues js)) (queues js) old new) f
    (subst (λ (x : Geometry). StoppedAmong (wave_events in_turn x.banks turn
    (job_queues x.rows jobs)) (job_queues x.rows jobs) old new) e h)

-- events that are on other banks
abbrev Misses : ℕ → List Event → Type 0
Misses b events = AllByRecursion (λ e. bank_of e ≢ b) events

misses_both : (b : ℕ) (xs ys : List Event) → Misses b xs → Misses b ys → Misses b (xs ++ ys)
misses_both b [] ys h k = k
misses_both b (x ∷ xs) ys h k = (h.0, misses_both b xs ys h.1 k)

other : (b bank : ℕ) (cs : List Command) (left : Queues) → left b ≡ [] → left bank ≡ cs
    → Misses b (row_events bank (take 1 cs))
other b bank [] left h e = tt
other b bank (c ∷ cs) left h e = (differ, tt) where
  differ : bank ≢ b
  differ same = absurd (cc (ap left same))

still_none : (t : Bool) (cs : List Command) → cs ≡ [] → cond t (drop 1 cs) cs ≡ []
still_none true cs e = ap (drop 1) e
still_none false cs e = e

misses_picks : (b banks : ℕ) (picks : List ℕ) (left : Queues) → left b ≡ []
    → Misses b (events_of_picks banks picks left)
misses_picks b banks [] left h = tt
misses_picks b banks (pick ∷ picks) left h =
    let bank = picked banks left pick in
    misses_both b (row_events bank (take 1 (left bank)))
    (events_of_picks banks picks (without_next bank left))
    (other b bank (left bank) left h refl)
    (misses_picks b banks picks (without_next bank left) (still_none (nat_eq bank b) (left b) h))

unmoved : (e : Event) (banks : Banks) (b : ℕ) (t : Bool) → nat_eq (bank_of e) b ≡ t
    → bank_of e ≢ b → cond t (on_bank e (banks b)) (banks b) ≡ banks b
unmoved e banks b true h ne = absurd (ne (grind arith))
unmoved e banks b false h ne = refl

after_misses : (n : ℕ) (events : List Event) (banks : Banks) (b : ℕ) → Misses b events
    → after (take n events) banks b ≡ banks b
after_misses zero events banks b h = refl
after_misses (suc n) [] banks b h = refl
after_misses (suc n) (e ∷ events) banks b h =
    after_misses n events (happens e banks) b h.1
    ∙ unmoved e banks b (nat_eq (bank_of e) b) refl h.0

misses_at : (b n bank : ℕ) (c : Command) (events : List Event) → Misses b events
    → slice_get events n ≡ Some (Row bank c) → bank ≢ b
misses_at b n bank c [] h e = absurd (cc)
misses_at b zero bank c (x ∷ events) h e =
    let same : x ≡ Row bank c = cc in subst (λ y. bank_of y ≢ b) same h.0
misses_at b (suc n) bank c (x ∷ events) h e = misses_at b n bank c events h.1 e

none_past : (t : Bool) (b k banks : ℕ) (cs : List Command) → nat_lt b banks ≡ t → banks ≤ k
    → k ≤ b → cond t cs [] ≡ []
none_past true b k banks cs e h l = absurd (grind (arith, e, h, l))
none_past false b k banks cs e h l = refl

idle : (b k : ℕ) (jobs : List WaveJob) → AllByRecursion (λ job. job.banks ≤ k) jobs → k ≤ b
    → queues jobs b ≡ []
idle b k [] all l = refl
idle b k (job ∷ jobs) all l =
    ap (λ xs. xs ++ queues jobs b) (none_past (nat_lt b job.banks) b k job.banks job.commands refl
    all.0 l) ∙ idle b k jobs all.1 l

-- where a call fails, the banks past those of every job are as they were
pub stopped_below : (banks : ℕ) (turn : Turn) (jobs : List WaveJob) (old new : ChipView) (k : ℕ)
    → StoppedAmong (wave_events in_turn banks turn (queues jobs)) (queues jobs) old new
    → AllByRecursion (λ job. job.banks ≤ k) jobs → FailedBelow k old new
stopped_below banks turn jobs old new k s all = record {
  rose = s.rose;
  others = λ b l.
      let events = wave_events in_turn banks turn (queues jobs) in
      let misses : AllByRecursion (λ (x : Event). bank_of x ≢ b) events =
      misses_picks b banks (whole_picks in_turn banks turn (queues jobs)) (queues jobs)
      (idle b k jobs all l) in
      s.others b (λ same. misses_at b s.done s.bank s.command events misses s.failed (sym same))
      ∙ after_misses s.done events old.banks b misses;
}
