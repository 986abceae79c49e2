-- A wave beside its bbops one after another.
use Rattle.machine_model.proofs.Common.{◌≡◌, ℕ, zero, suc, ◌+◌, ◌*◌, ◌<◌, ◌≤◌, true, false, not}
use Rattle.machine_model.proofs.Common.{cond, ltb, List, [], ◌∷◌, ◌++◌, map, Option, Some, None}
use Rattle.machine_model.proofs.Common.{refl, sym, ◌∙◌, ap, subst, arith, inl, inr, eq-eqb}
use Rattle.machine_model.proofs.Common.{append-nil, take, drop, filter, flat_map, is_none, bytes_eq}
use Rattle.machine_model.proofs.Common.{range_with_len, AllByRecursion, ne_eqb, cases_lt, lt-ltb}
use Rattle.machine_model.proofs.Common.{nat_tests, map-append, All-push, All-filter}
use Rattle.machine_model.proofs.Common.{recursion_from_All, Geometry, Command, Banks, Event, after}
use Rattle.machine_model.proofs.Common.{Row, column_count, events_of, row_events, on_bank_all}
use Rattle.machine_model.proofs.Common.{projection, Named, Instruction, Init, Bbop, Load, Fill}
use Rattle.machine_model.proofs.Common.{Print, Free, Order, WaveJob, events_of_picks}
use Rattle.std.specs.Prelude.{◌⊎◌}
use Rattle.wave_model.specs.Schedule.{Queues, queues, IsWhole, picked, without_next}
use Rattle.wave_model.proofs.Waves.{own_queue, no_events, live_at, live_none}
use Rattle.machine_model.specs.declared.Why.{Why}
use Rattle.machine_model.specs.Routines.{Routines}
use Rattle.machine_model.specs.Refusals.{refusal, object_named, rows_of}
use Rattle.machine_model.specs.Steps.{job_of, job_events, own_events, if_done, table_after, tabled}
use Rattle.machine_model.specs.Steps.{new_object}
use Rattle.machine_model.specs.Script.{is_bbop, table_at_end, events_in_order}
use Rattle.machine_model.specs.Pieces.{AreBbops, jobs_of, wave_queues}
use Rattle.machine_model.specs.Laws.{FitsBanks, WaveIsSteps}
use Rattle.machine_model.proofs.Makes.{few_banks}
use Rattle.machine_model.proofs.Tables.{made, object_holds}
use Rattle.machine_model.proofs.Bbops.{part_count}
use Rattle.machine_model.proofs.Events.{in_order_steps}
use Rattle.machine_model.proofs.Alike.{Alike, events_of-append}

-- a bank sees its own commands
row_own : (bank : ℕ) (cs : List Command)
    → events_of bank (row_events bank cs) ≡ row_events bank cs
row_own bank [] = refl
row_own bank (c ∷ cs) = rw (eq-eqb bank bank refl) (ap (λ es. Row bank c ∷ es) (row_own bank cs))

row_other : (bank b : ℕ) (cs : List Command) → (b ≡ bank → ⊥)
    → events_of bank (row_events b cs) ≡ []
row_other bank b [] n = refl
row_other bank b (c ∷ cs) n = rw (ne_eqb b bank n) (row_other bank b cs n)

-- and none of other banks
range_other : (bank : ℕ) (cs : List Command) (a n : ℕ) → (bank < a) ⊎ (a + n ≤ bank)
    → events_of bank (flat_map (λ b. row_events b cs) (range_with_len a n)) ≡ []
range_other bank cs a zero h = refl
range_other bank cs a (suc n) h =
    let rest = flat_map (λ b. row_events b cs) (range_with_len (a + 1) n) in
    let out : (bank < a + 1) ⊎ (a + 1 + n ≤ bank) = elim h [
      | inl l ↦ inl (omega arith)
      | inr l ↦ inr (omega arith)
    ] in
    let apart : a ≡ bank → ⊥ = λ e. elim h [
      | inl l ↦ absurd (omega arith)
      | inr l ↦ absurd (omega arith)
    ] in
    events_of-append bank (row_events a cs) rest
    ∙ ap (λ es. es ++ events_of bank rest) (row_other bank a cs apart)
    ∙ range_other bank cs (a + 1) n out

range_own : (bank : ℕ) (cs : List Command) (a n : ℕ) → a ≤ bank → bank < a + n
    → events_of bank (flat_map (λ b. row_events b cs) (range_with_len a n)) ≡ row_events bank cs
range_own bank cs a zero l m = absurd (omega arith)
range_own bank cs a (suc n) l m =
    let rest = flat_map (λ b. row_events b cs) (range_with_len (a + 1) n) in
    events_of-append bank (row_events a cs) rest ∙ elim (cases_lt a bank) [
      | inl lt ↦
          ap (λ es. es ++ events_of bank rest) (row_other bank a cs (λ e. absurd (omega arith)))
          ∙ range_own bank cs (a + 1) n (omega arith) (omega arith)
      | inr ge ↦
          let same : a ≡ bank = omega arith in
          ap (λ x. events_of bank (row_events x cs) ++ events_of bank rest) same
          ∙ ap (λ es. events_of bank (row_events bank cs) ++ es)
          (range_other bank cs (a + 1) n (inl (omega arith)))
          ∙ append-nil (events_of bank (row_events bank cs)) ∙ row_own bank cs
    ]

job_seen : (job : WaveJob) (bank : ℕ) → events_of bank (job_events job)
    ≡ row_events bank (cond (ltb bank job.banks) job.commands [])
job_seen job bank = elim (cases_lt bank job.banks) [
  | inl l ↦ range_own bank job.commands 0 job.banks (omega arith) (omega arith)
      ∙ rw (lt-ltb bank job.banks l) refl
  | inr g ↦
      let past : ltb bank job.banks ≡ false = grind (arith, nat_tests) in
      range_other bank job.commands 0 job.banks (inr (omega arith)) ∙ rw past refl
]

-- jobs one after another: each bank sees its queue
pub jobs_seen : (jobs : List WaveJob) (bank : ℕ)
    → events_of bank (flat_map job_events jobs) ≡ row_events bank (queues jobs bank)
jobs_seen [] bank = refl
jobs_seen (job ∷ jobs) bank =
    events_of-append bank (job_events job) (flat_map job_events jobs)
    ∙ ap (λ es. es ++ events_of bank (flat_map job_events jobs)) (job_seen job bank)
    ∙ ap (λ es. row_events bank (cond (ltb bank job.banks) job.commands []) ++ es)
    (jobs_seen jobs bank)
    ∙ sym (map-append (λ c. Row bank c) (cond (ltb bank job.banks) job.commands [])
    (queues jobs bank))

if_same : {S : Type 0} (r : Option Why) (x : S) → if_done r x x ≡ x
if_same None x = refl
if_same (Some reason) x = refl

pub bbop_table : (g : Geometry) (operations : Routines) (table : List Named)
    (instr : Instruction) → is_bbop instr ≡ true → table_after g operations table instr ≡ table
bbop_table g operations table (Bbop op dst srcs count n) h =
    if_same (refusal g operations table (Bbop op dst srcs count n)) table
bbop_table g operations table (Init name count n) h = cc
bbop_table g operations table (Load name values) h = cc
bbop_table g operations table (Fill name value) h = cc
bbop_table g operations table (Print name) h = cc
bbop_table g operations table (Free name) h = cc
bbop_table g operations table (Order o) h = cc

bbop_own : (g : Geometry) (table : List Named) (instr : Instruction) → is_bbop instr ≡ true
    → own_events g table instr ≡ []
bbop_own g table (Bbop op dst srcs count n) h = refl
bbop_own g table (Init name count n) h = cc
bbop_own g table (Load name values) h = cc
bbop_own g table (Fill name value) h = cc
bbop_own g table (Print name) h = cc
bbop_own g table (Free name) h = cc
bbop_own g table (Order o) h = cc

one_case : (g : Geometry) (operations : Routines) (table : List Named) (instr : Instruction)
    (wave : List Instruction) (own : List Event) (r : Option Why) → own ≡ []
    → if_done r (job_events (job_of g operations table instr) ++ own) []
    ++ flat_map job_events (jobs_of g operations table wave)
    ≡ flat_map job_events (map (job_of g operations table)
    (cond (is_none r) (instr ∷ filter (λ i. is_none (refusal g operations table i)) wave)
    (filter (λ i. is_none (refusal g operations table i)) wave)))
one_case g operations table instr wave own None e =
    ap (λ es. es ++ flat_map job_events (jobs_of g operations table wave))
    (ap (λ es. job_events (job_of g operations table instr) ++ es) e
    ∙ append-nil (job_events (job_of g operations table instr)))
one_case g operations table instr wave own (Some reason) e = refl

-- bbops one after another are their jobs one after another
pub wave_in_order : (g : Geometry) (operations : Routines) (table : List Named)
    (wave : List Instruction) → AreBbops wave
    → events_in_order g operations table wave
    ≡ flat_map job_events (jobs_of g operations table wave)
wave_in_order g operations table [] h = refl
wave_in_order g operations table (instr ∷ wave) h =
    let r = refusal g operations table instr in
    let own = own_events g table instr in
    let job = job_events (job_of g operations table instr) in
    ap (λ t. if_done r (job ++ own) [] ++ events_in_order g operations t wave)
    (bbop_table g operations table instr h.0)
    ∙ ap (λ es. if_done r (job ++ own) [] ++ es) (wave_in_order g operations table wave h.1)
    ∙ one_case g operations table instr wave own r (bbop_own g table instr h.0)

pub wave_steps : WaveIsSteps
wave_steps g operations table wave ps chip bank h w l =
    let left = wave_queues g operations table wave in
    let jobs = jobs_of g operations table wave in
    projection (events_of_picks g.banks ps left) chip bank
    ∙ ap (λ own. on_bank_all own (chip bank)) (own_queue g.banks ps left bank w l
    ∙ sym (jobs_seen jobs bank))
    ∙ sym (projection (flat_map job_events jobs) chip bank)
    ∙ ap (λ es. after es chip bank) (sym (wave_in_order g operations table wave h))
    ∙ ap (λ (banks : Banks). banks bank) (in_order_steps g operations table wave chip)

-- the banks of a job are there
pub job_fits : (g : Geometry) (operations : Routines) (table : List Named) (instr : Instruction)
    → 0 < g.words → FitsBanks g table → (job_of g operations table instr).banks ≤ g.banks
job_fits g operations table (Bbop op dst srcs count n) some h =
    few_banks (rows_of table dst).count (column_count g) g.banks (omega arith)
    (subst (λ (c : ℕ). c ≤ column_count g * g.banks) (sym (part_count (object_named table dst.name)
    dst.part)) (object_holds (λ o. o.count ≤ column_count g * g.banks)
    table dst.name (omega arith)
    (recursion_from_All (λ named. named.1.count ≤ column_count g * g.banks) table h)))
job_fits g operations table (Init name count n) some h = omega arith
job_fits g operations table (Load name values) some h = omega arith
job_fits g operations table (Fill name value) some h = omega arith
job_fits g operations table (Print name) some h = omega arith
job_fits g operations table (Free name) some h = omega arith
job_fits g operations table (Order o) some h = omega arith

pub jobs_fit : (g : Geometry) (operations : Routines) (table : List Named)
    (instrs : List Instruction) → 0 < g.words → FitsBanks g table
    → AllByRecursion (λ job. job.banks ≤ g.banks) (map (job_of g operations table) instrs)
jobs_fit g operations table [] some h = tt
jobs_fit g operations table (instr ∷ instrs) some h =
    (job_fits g operations table instr some h, jobs_fit g operations table instrs some h)

queue_none : (jobs : List WaveJob) (banks bank : ℕ) → AllByRecursion (λ job. job.banks ≤ banks) jobs
    → banks ≤ bank → queues jobs bank ≡ []
queue_none [] banks bank h l = refl
queue_none (job ∷ jobs) banks bank h l =
    let past : ltb bank job.banks ≡ false = let m = h.0 in grind (arith, nat_tests) in
    rw past (queue_none jobs banks bank h.1 l)

-- under any whole list of picks each bank sees the jobs in their order
pub picks_alike : (banks : ℕ) (ps : List ℕ) (jobs : List WaveJob)
    → AllByRecursion (λ job. job.banks ≤ banks) jobs → IsWhole banks ps (queues jobs)
    → Alike (events_of_picks banks ps (queues jobs)) (flat_map job_events jobs)
picks_alike banks ps jobs h w bank = elim (cases_lt bank banks) [
  | inl l ↦ own_queue banks ps (queues jobs) bank w l ∙ sym (jobs_seen jobs bank)
  | inr g ↦
      let le : banks ≤ bank = omega arith in
      no_events banks ps (queues jobs) bank w le
      ∙ ap (row_events bank) (sym (queue_none jobs banks bank h le)) ∙ sym (jobs_seen jobs bank)
]

-- on one bank they are its queue
only_queue : (banks : ℕ) (ps : List ℕ) (left : Queues) → banks ≡ 1 → IsWhole banks ps left
    → events_of_picks banks ps left ≡ row_events 0 (left 0)
only_queue banks [] left one w =
    ap (row_events 0) (sym (live_none left 0 banks 0 w (omega arith) (omega (arith, one))))
only_queue banks (p ∷ ps) left one w =
    let at = live_at left 0 banks p w.0 in
    let b = picked banks left p in
    let below : b < 0 + banks = at.1 in
    let first : b ≡ 0 = omega (arith, one, below) in
    ap (λ es. row_events b (take 1 (left b)) ++ es)
    (only_queue banks ps (without_next b left) one w.1)
    ∙ ap (λ x. row_events x (take 1 (left x)) ++ row_events 0 (without_next x left 0)) first
    ∙ taken (left 0) where
      taken : (cs : List Command)
          → row_events 0 (take 1 cs) ++ row_events 0 (drop 1 cs) ≡ row_events 0 cs
      taken [] = refl
      taken (c ∷ cs) = refl

only_job : (cs : List Command) (banks : ℕ) → banks ≤ 1
    → flat_map (λ bank. row_events bank cs) (range_with_len 0 banks)
    ≡ row_events 0 (cond (ltb 0 banks) cs [])
only_job cs zero h = refl
only_job cs (suc zero) h = append-nil (row_events 0 cs)
only_job cs (suc (suc n)) h = absurd (omega arith)

only_jobs : (jobs : List WaveJob) (banks : ℕ) → banks ≡ 1
    → AllByRecursion (λ job. job.banks ≤ banks) jobs
    → flat_map job_events jobs ≡ row_events 0 (queues jobs 0)
only_jobs [] banks one h = refl
only_jobs (job ∷ jobs) banks one h =
    let few : job.banks ≤ 1 = let m = h.0 in omega (arith, one, m) in
    let own = cond (ltb 0 job.banks) job.commands [] in
    ap (λ es. es ++ flat_map job_events jobs) (only_job job.commands job.banks few)
    ∙ ap (λ es. row_events 0 own ++ es) (only_jobs jobs banks one h.1)
    ∙ sym (map-append (λ c. Row 0 c) own (queues jobs 0))

-- on one bank the picks' events are those of the jobs one after another
pub picks_same : (banks : ℕ) (ps : List ℕ) (jobs : List WaveJob) → banks ≡ 1
    → AllByRecursion (λ job. job.banks ≤ banks) jobs → IsWhole banks ps (queues jobs)
    → events_of_picks banks ps (queues jobs) ≡ flat_map job_events jobs
picks_same banks ps jobs one h w = only_queue banks ps (queues jobs) one w
    ∙ sym (only_jobs jobs banks one h)

fits_done : (r : Option Why) (g : Geometry) (new old : List Named)
    → (r ≡ None → FitsBanks g new) → FitsBanks g old → FitsBanks g (if_done r new old)
fits_done None g new old h k = h refl
fits_done (Some reason) g new old h k = k

fits_tabled : (g : Geometry) (operations : Routines) (table : List Named) (instr : Instruction)
    → FitsBanks g table → refusal g operations table instr ≡ None
    → FitsBanks g (tabled g table instr)
fits_tabled g operations table (Init name count n) f h =
    All-push (λ named. named.1.count ≤ column_count g * g.banks) table
    (name, new_object g table count n) f (made g operations table name count n h).fits
fits_tabled g operations table (Free name) f h =
    All-filter (λ p. not (bytes_eq p.0 name))
    (λ named. named.1.count ≤ column_count g * g.banks) table f
fits_tabled g operations table (Bbop op dst srcs count n) f h = f
fits_tabled g operations table (Load name values) f h = f
fits_tabled g operations table (Fill name value) f h = f
fits_tabled g operations table (Print name) f h = f
fits_tabled g operations table (Order o) f h = f

-- a table that fits stays so
pub fits_after : (g : Geometry) (operations : Routines) (table : List Named)
    (instrs : List Instruction) → FitsBanks g table
    → FitsBanks g (table_at_end g operations table instrs)
fits_after g operations table [] f = f
fits_after g operations table (instr ∷ instrs) f =
    fits_after g operations (table_after g operations table instr) instrs
    (fits_done (refusal g operations table instr) g (tabled g table instr) table
    (fits_tabled g operations table instr f) f)
