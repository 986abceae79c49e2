-- The counters of a wave.
use Rattle.std.proofs.Common.{◌≡◌, ℕ, zero, suc, ◌+◌, ◌*◌, ◌<◌, ◌≤◌, Bool, cond, List, []}
use Rattle.std.proofs.Common.{◌∷◌, drop, take, refl, sym, ◌∙◌, ap, arith, inl, inr}
use Rattle.std.proofs.Common.{eq-eqb}
use Rattle.std.specs.Prelude.{All, count_by, nat_lt, if◌then◌else◌}
use Rattle.std.specs.List.{range_with_len, sum_by}
use Rattle.std.proofs.lemmas.Bool.{ne_eqb, cases_lt, lt-ltb, le-ltb}
use Rattle.std.proofs.lemmas.List.Sums.{sum_by-cons, sum_by-append}
use Rattle.std.proofs.lemmas.List.Elements.{All-head, All-tail}
use Rattle.dram_model.specs.declared.address.Command.{Command}
use Rattle.dram_model.specs.declared.address.Command.TheVariants.{Ap, Aap}
use Rattle.dram_model.specs.declared.dram.Counters.{Counters}
use Rattle.dram_model.specs.Chip.{all_counted}
use Rattle.dram_model.specs.Events.{row_events}
use Rattle.dram_model.proofs.EventLaws.{all_counted-append}
use Rattle.wave_model.specs.Schedule.{WaveJob, Queues, queues, picked, without_next}
use Rattle.wave_model.specs.Schedule.{events_of_picks, IsWhole}
use Rattle.wave_model.specs.Laws.{is_aap, is_ap, with_commands, CountsAreSums}
use Rattle.wave_model.proofs.Waves.{live_at, live_none}

-- how many commands of a kind are left in the banks from a on
abbrev counted_in : (Command → Bool) → Queues → ℕ → ℕ → ℕ
counted_in p left a n = sum_by (λ b. count_by p (left b)) (range_with_len a n)

count_cons : (p : Command → Bool) (c : Command) (cs : List Command)
    → count_by p (c ∷ cs) ≡ cond (p c) 1 0 + count_by p cs
count_cons p c cs = sum_by-cons (λ x. cond (p x) 1 0) c cs

-- the bank's next command is counted apart
count_first : (p : Command → Bool) (cs : List Command)
    → count_by p (take 1 cs) + count_by p (drop 1 cs) ≡ count_by p cs
count_first p [] = refl
count_first p (c ∷ cs) =
    let one : count_by p (c ∷ []) ≡ cond (p c) 1 0 + count_by p [] = count_cons p c [] in
    let all : count_by p (c ∷ cs) ≡ cond (p c) 1 0 + count_by p cs = count_cons p c cs in
    let none : count_by p [] ≡ 0 = refl in
    omega (arith, one, all, none)

same_counts : (p : Command → Bool) (left : Queues) (b a n : ℕ) → b < a
    → counted_in p (without_next b left) a n ≡ counted_in p left a n
same_counts p left b a zero h = refl
same_counts p left b a (suc n) h = rw (
  sum_by-cons (λ x. count_by p (without_next b left x)) a (range_with_len (a + 1) n),
  sum_by-cons (λ x. count_by p (left x)) a (range_with_len (a + 1) n),
  same_counts p left b (a + 1) n (omega arith),
  ne_eqb b a (λ e. absurd (omega arith)),
) refl

fewer_counts : (p : Command → Bool) (left : Queues) (b a n : ℕ) → a ≤ b → b < a + n
    → counted_in p left a n
    ≡ count_by p (take 1 (left b)) + counted_in p (without_next b left) a n
fewer_counts p left b a zero l m = absurd (omega arith)
fewer_counts p left b a (suc n) l m =
    rw (
      sum_by-cons (λ x. count_by p (without_next b left x)) a (range_with_len (a + 1) n),
      sum_by-cons (λ x. count_by p (left x)) a (range_with_len (a + 1) n),
    )
    (elim (cases_lt a b) [
      | inl lt ↦ rw (ne_eqb b a (λ e. absurd (omega arith)))
          (omega (arith, fewer_counts p left b (a + 1) n (omega arith) (omega arith)))
      | inr ge ↦
          let same : b ≡ a = omega arith in
          rw (eq-eqb b a same)
          (let here : count_by p (take 1 (left b)) + count_by p (drop 1 (left a))
          ≡ count_by p (left a) =
          ap (λ x. count_by p (take 1 (left x)) + count_by p (drop 1 (left a))) same
          ∙ count_first p (left a) in
          omega (arith, here, same_counts p left b (a + 1) n (omega arith)))
    ])

no_counts : (p : Command → Bool) (left : Queues) (a n : ℕ)
    → ((b : ℕ) → a ≤ b → b < a + n → left b ≡ []) → counted_in p left a n ≡ 0
no_counts p left a zero none = refl
no_counts p left a (suc n) none =
    let here : count_by p (left a) ≡ 0 = ap (count_by p) (none a (omega arith) (omega arith)) in
    let more : counted_in p left (a + 1) n ≡ 0 =
    no_counts p left (a + 1) n (λ b l m. none b (omega (arith, l)) (omega (arith, m))) in
    sum_by-cons (λ x. count_by p (left x)) a (range_with_len (a + 1) n) ∙ omega (arith, here, more)

same_counters : (m m' n n' : ℕ) (c : Counters) → m ≡ m' → n ≡ n'
    → (let k : Counters = record c { aap = m; ap = n } in k) ≡ record c { aap = m'; ap = n' }
same_counters m m' n n' c e f = ap (λ i. (let k : Counters = record c { aap = i; ap = n } in k)) e
    ∙ ap (λ i. (let k : Counters = record c { aap = m'; ap = i } in k)) f

with_both : (i j m n : ℕ) (c : Counters)
    → with_commands m n (with_commands i j c) ≡ with_commands (i + m) (j + n) c
with_both i j m n c = same_counters (c.aap + i + m) (c.aap + (i + m)) (c.ap + j + n)
    (c.ap + (j + n)) c (omega arith) (omega arith)

-- a bank's next command is counted
next_counted : (bank : ℕ) (cs : List Command) (c : Counters)
    → all_counted (row_events bank (take 1 cs)) c
    ≡ with_commands (count_by is_aap (take 1 cs)) (count_by is_ap (take 1 cs)) c
next_counted bank [] c = same_counters c.aap (c.aap + 0) c.ap (c.ap + 0) c (omega arith)
    (omega arith)
next_counted bank (Ap x ∷ cs) c = same_counters c.aap (c.aap + 0) (c.ap + 1) (c.ap + 1) c
    (omega arith) (omega arith)
next_counted bank (Aap x y ∷ cs) c = same_counters (c.aap + 1) (c.aap + 1) c.ap (c.ap + 0) c
    (omega arith) (omega arith)

-- the counters rise by what is left in all banks
picks_counted : (banks : ℕ) (ps : List ℕ) (left : Queues) (c : Counters) → IsWhole banks ps left
    → all_counted (events_of_picks banks ps left) c
    ≡ with_commands (counted_in is_aap left 0 banks) (counted_in is_ap left 0 banks) c
picks_counted banks [] left c w =
    let none : (p : Command → Bool) → counted_in p left 0 banks ≡ 0 =
    λ p. no_counts p left 0 banks (λ b l m. live_none left 0 banks b w l m) in
    same_counters c.aap (c.aap + counted_in is_aap left 0 banks) c.ap
    (c.ap + counted_in is_ap left 0 banks) c (omega (arith, none is_aap))
    (omega (arith, none is_ap))
picks_counted banks (p ∷ ps) left c w =
    let b = picked banks left p in
    let at = live_at left 0 banks p w.0 in
    let one = row_events b (take 1 (left b)) in
    let i = count_by is_aap (take 1 (left b)) in
    let j = count_by is_ap (take 1 (left b)) in
    let m = counted_in is_aap (without_next b left) 0 banks in
    let n = counted_in is_ap (without_next b left) 0 banks in
    all_counted-append one (events_of_picks banks ps (without_next b left)) c
    ∙ picks_counted banks ps (without_next b left) (all_counted one c) w.1
    ∙ ap (with_commands m n) (next_counted b (left b) c)
    ∙ with_both i j m n c
    ∙ same_counters (c.aap + (i + m)) (c.aap + counted_in is_aap left 0 banks) (c.ap + (j + n))
    (c.ap + counted_in is_ap left 0 banks) c
    (omega (arith, fewer_counts is_aap left b 0 banks at.0 at.1))
    (omega (arith, fewer_counts is_ap left b 0 banks at.0 at.1))

-- a sum of sums
sum_both : (f g h : ℕ → ℕ) (xs : List ℕ) → ((x : ℕ) → h x ≡ f x + g x)
    → sum_by h xs ≡ sum_by f xs + sum_by g xs
sum_both f g h [] e = refl
sum_both f g h (x ∷ xs) e = rw (sum_by-cons h x xs, sum_by-cons f x xs, sum_by-cons g x xs)
    (omega (arith, e x, sum_both f g h xs e))

-- the banks of one job, and those past them
past_sum : (p : Command → Bool) (cs : List Command) (k a n : ℕ) → k ≤ a
    → sum_by (λ b. count_by p (if nat_lt b k then cs else [])) (range_with_len a n) ≡ 0
past_sum p cs k a zero h = refl
past_sum p cs k a (suc n) h =
    let none : count_by p (if nat_lt a k then cs else []) ≡ 0 = rw (le-ltb a k h) refl in
    sum_by-cons (λ b. count_by p (if nat_lt b k then cs else [])) a (range_with_len (a + 1) n)
    ∙ omega (arith, none, past_sum p cs k (a + 1) n (omega arith))

job_sum : (p : Command → Bool) (cs : List Command) (k m a n : ℕ) → a + m ≡ k → m ≤ n
    → sum_by (λ b. count_by p (if nat_lt b k then cs else [])) (range_with_len a n)
    ≡ m * count_by p cs
job_sum p cs k zero a n e h = past_sum p cs k a n (omega arith) ∙ omega arith
job_sum p cs k (suc m) a zero e h = absurd (omega arith)
job_sum p cs k (suc m) a (suc n) e h =
    let here : count_by p (if nat_lt a k then cs else []) ≡ count_by p cs =
    rw (lt-ltb a k (omega arith)) refl in
    let more = job_sum p cs k m (a + 1) n (omega (arith, e)) (omega arith) in
    sum_by-cons (λ b. count_by p (if nat_lt b k then cs else [])) a (range_with_len (a + 1) n)
    ∙ omega (arith, here, more)

none_sum : (p : Command → Bool) (xs : List ℕ) → sum_by (λ b. count_by p []) xs ≡ 0
none_sum p [] = refl
none_sum p (x ∷ xs) =
    let none : count_by p [] ≡ 0 = refl in
    sum_by-cons (λ b. count_by p []) x xs ∙ omega (arith, none, none_sum p xs)

queues_sum : (p : Command → Bool) (banks : ℕ) (jobs : List WaveJob)
    → All (λ job. job.banks ≤ banks) jobs → counted_in p (queues jobs) 0 banks
    ≡ sum_by (λ job. job.banks * count_by p job.commands) jobs
queues_sum p banks [] all = none_sum p (range_with_len 0 banks)
queues_sum p banks (job ∷ jobs) all =
    let own : ℕ → ℕ = λ b. count_by p (if nat_lt b job.banks then job.commands else []) in
    let others : ℕ → ℕ = λ b. count_by p (queues jobs b) in
    let both : (b : ℕ) → count_by p (queues (job ∷ jobs) b) ≡ own b + others b =
    λ b. sum_by-append (λ x. cond (p x) 1 0) (if nat_lt b job.banks then job.commands else [])
    (queues jobs b) in
    let here = job_sum p job.commands job.banks job.banks 0 banks (omega arith)
    (All-head (λ (j : WaveJob). j.banks ≤ banks) job jobs all) in
    let more = queues_sum p banks jobs (All-tail (λ (j : WaveJob). j.banks ≤ banks) job jobs all) in
    sum_both own others (λ b. count_by p (queues (job ∷ jobs) b)) (range_with_len 0 banks) both
    ∙ ap (λ m. m + counted_in p (queues jobs) 0 banks) here
    ∙ ap (λ m. job.banks * count_by p job.commands + m) more
    ∙ sym (sum_by-cons (λ (j : WaveJob). j.banks * count_by p j.commands) job jobs)

pub wave_counts : CountsAreSums
wave_counts banks ps jobs c w all =
    picks_counted banks ps (queues jobs) c w
    ∙ ap (λ m. with_commands m (counted_in is_ap (queues jobs) 0 banks) c)
    (queues_sum is_aap banks jobs all)
    ∙ ap (λ n. with_commands (sum_by (λ job. job.banks * count_by is_aap job.commands) jobs) n c)
    (queues_sum is_ap banks jobs all)
