-- The banks of a wave: each follows its own queue, in whatever order they take turns.
use Rattle.std.proofs.Common.{◌≡◌, ℕ, zero, suc, ◌+◌, ◌<◌, ◌≤◌, Bool, true, false, not, cond, eqb}
use Rattle.std.proofs.Common.{List, [], ◌∷◌, ◌++◌, length, get_or, map, drop, take, refl, sym, ◌∙◌}
use Rattle.std.proofs.Common.{ap, subst, inl, inr, arith, eq-eqb, map-id}
use Rattle.std.specs.List.{range_with_len, filter, sum_by}
use Rattle.std.proofs.lemmas.Bool.{ne_eqb, cases_lt}
use Rattle.std.proofs.lemmas.Bool.Decides.{eqb_tells, nat_tests}
use Rattle.std.proofs.lemmas.List.Sums.{sum_by-cons}
use Rattle.dram_model.specs.declared.address.Command.{Command}
use Rattle.dram_model.specs.Column.{Column, run}
use Rattle.dram_model.specs.Chip.{Event}
use Rattle.dram_model.specs.Chip.Event.{Row}
use Rattle.dram_model.specs.Events.{events_of, row_events}
use Rattle.dram_model.proofs.EventLaws.{on_bank_all, projection, step-then-run}
use Rattle.wave_model.specs.Schedule.{Queues, is_live, live, picked, without_next}
use Rattle.wave_model.specs.Schedule.{events_of_picks, IsWhole, Picker, PicksLive, picks}
use Rattle.wave_model.specs.Schedule.{total_left, Ahead, Turning, Drawing, in_turn}
use Rattle.wave_model.specs.Laws.{FollowsQueue, PicksAreWhole}

-- the bank is one of n from a on, and has commands left
abbrev pub IsLiveIn : Queues → ℕ → ℕ → ℕ → Type 0
IsLiveIn left a n b = (a ≤ b) × (b < a + n) × (0 < length (left b))

live_long : (cs : List Command) → not (eqb (length cs) 0) ≡ true → 0 < length cs
live_long [] h = cc
live_long (c ∷ cs) h = omega arith

dead_empty : (cs : List Command) → not (eqb (length cs) 0) ≡ false → cs ≡ []
dead_empty [] h = refl
dead_empty (c ∷ cs) h = absurd (grind (arith, nat_tests))

live_case : (left : Queues) (a n i : ℕ) (rest : List ℕ) (t : Bool) → is_live left a ≡ t
    → ((j : ℕ) → j < length rest → IsLiveIn left (a + 1) n (get_or rest j 0))
    → i < length (cond t (a ∷ rest) rest)
    → IsLiveIn left a (suc n) (get_or (cond t (a ∷ rest) rest) i 0)
live_case left a n zero rest true e go h = (omega arith, omega arith, live_long (left a) e)
live_case left a n (suc i) rest true e go h = let r = go i (omega arith) in
    (omega (arith, r.0), omega (arith, r.1), r.2)
live_case left a n i rest false e go h = let r = go i h in
    (omega (arith, r.0), omega (arith, r.1), r.2)

-- what stands among the live banks is live
pub live_at : (left : Queues) (a n i : ℕ)
    → i < length (filter (is_live left) (range_with_len a n))
    → IsLiveIn left a n (get_or (filter (is_live left) (range_with_len a n)) i 0)
live_at left a zero i h = absurd (omega arith)
live_at left a (suc n) i h =
    live_case left a n i (filter (is_live left) (range_with_len (a + 1) n)) (is_live left a) refl
    (live_at left (a + 1) n) h

none_case : (left : Queues) (a b : ℕ) (rest : List ℕ) (t : Bool) → is_live left a ≡ t
    → (rest ≡ [] → a < b → left b ≡ []) → cond t (a ∷ rest) rest ≡ [] → a ≤ b → left b ≡ []
none_case left a b rest true e go h l = cc
none_case left a b rest false e go h l = elim (cases_lt a b) [
  | inl lt ↦ go h lt
  | inr ge ↦
      let same : a ≡ b = omega arith in
      subst (λ (x : ℕ). left x ≡ []) same (dead_empty (left a) e)
]

-- where no bank is live, each queue is empty
pub live_none : (left : Queues) (a n b : ℕ) → filter (is_live left) (range_with_len a n) ≡ []
    → a ≤ b → b < a + n → left b ≡ []
live_none left a zero b h l m = absurd (omega arith)
live_none left a (suc n) b h l m =
    none_case left a b (filter (is_live left) (range_with_len (a + 1) n)) (is_live left a) refl
    (λ r lt. live_none left (a + 1) n b r (omega arith) (omega arith)) h l

-- the chosen bank does its next command
step_own : (bank : ℕ) (front : List Command) (rest : List Event) → 0 < length front
    → events_of bank rest ≡ row_events bank (drop 1 front)
    → events_of bank (row_events bank (take 1 front) ++ rest) ≡ row_events bank front
step_own bank [] rest h e = absurd (omega arith)
step_own bank (c ∷ cs) rest h e = rw (eq-eqb bank bank refl) (ap (λ es. Row bank c ∷ es) e)

-- and the others none
step_other : (bank b : ℕ) (front : List Command) (rest : List Event) → (b ≡ bank → ⊥)
    → events_of bank (row_events b (take 1 front) ++ rest) ≡ events_of bank rest
step_other bank b [] rest ne = refl
step_other bank b (c ∷ cs) rest ne = rw (ne_eqb b bank ne) refl

-- after a whole list of picks each bank has done its own queue, in order
pub own_queue : (banks : ℕ) (ps : List ℕ) (left : Queues) (bank : ℕ) → IsWhole banks ps left
    → bank < banks → events_of bank (events_of_picks banks ps left) ≡ row_events bank (left bank)
own_queue banks [] left bank w h =
    rw (live_none left 0 banks bank w (omega arith) (omega arith)) refl
own_queue banks (p ∷ ps) left bank w h =
    let b = picked banks left p in
    let rest = events_of_picks banks ps (without_next b left) in
    let at = live_at left 0 banks p w.0 in
    elim (eqb_tells b bank) [
      | inl e ↦
          let lt : b < banks = omega (arith, at.1) in
          let own = rw (eq-eqb b b refl) at (own_queue banks ps (without_next b left) b w.1 lt) in
          subst (λ (x : ℕ). events_of x (row_events b (take 1 (left b)) ++ rest)
          ≡ row_events x (left x)) e.1 (step_own b (left b) rest at.2 own)
      | inr e ↦ step_other bank b (left b) rest e.1
          ∙ (rw e.0 at (own_queue banks ps (without_next b left) bank w.1 h))
    ]

-- a bank past the last has no events
pub no_events : (banks : ℕ) (ps : List ℕ) (left : Queues) (bank : ℕ) → IsWhole banks ps left
    → banks ≤ bank → events_of bank (events_of_picks banks ps left) ≡ []
no_events banks [] left bank w h = refl
no_events banks (p ∷ ps) left bank w h =
    let b = picked banks left p in
    let at = live_at left 0 banks p w.0 in
    step_other bank b (left b) (events_of_picks banks ps (without_next b left))
    (λ e. let lt : b < 0 + banks = at.1 in absurd (omega arith))
    ∙ no_events banks ps (without_next b left) bank w.1 h

pub on_own : (bank : ℕ) (cs : List Command) (columns : List Column)
    → on_bank_all (row_events bank cs) columns ≡ map (run cs) columns
on_own bank [] columns = sym (map-id columns)
on_own bank (c ∷ cs) columns = on_own bank cs _ ∙ step-then-run c cs columns

-- Each bank is left as its own queue alone leaves it, for every whole list of picks
pub wave_banks : FollowsQueue
wave_banks banks ps left chip bank w h =
    projection (events_of_picks banks ps left) chip bank
    ∙ ap (λ es. on_bank_all es (chip bank)) (own_queue banks ps left bank w h)
    ∙ on_own bank (left bank) (chip bank)

-- how many commands are left, after one of them
left_same : (left : Queues) (b a n : ℕ) → b < a
    → sum_by (λ x. length (without_next b left x)) (range_with_len a n)
    ≡ sum_by (λ x. length (left x)) (range_with_len a n)
left_same left b a zero h = refl
left_same left b a (suc n) h = rw (
  sum_by-cons (λ x. length (without_next b left x)) a (range_with_len (a + 1) n),
  sum_by-cons (λ x. length (left x)) a (range_with_len (a + 1) n),
  left_same left b (a + 1) n (omega arith),
  ne_eqb b a (λ e. absurd (omega arith)),
) refl

one_less : (cs : List Command) → 0 < length cs → length (drop 1 cs) + 1 ≡ length cs
one_less [] h = absurd (omega arith)
one_less (c ∷ cs) h = omega arith

pub left_less : (left : Queues) (b a n : ℕ) → a ≤ b → b < a + n → 0 < length (left b)
    → sum_by (λ x. length (without_next b left x)) (range_with_len a n) + 1
    ≡ sum_by (λ x. length (left x)) (range_with_len a n)
left_less left b a zero l m h = absurd (omega arith)
left_less left b a (suc n) l m h =
    rw (
      sum_by-cons (λ x. length (without_next b left x)) a (range_with_len (a + 1) n),
      sum_by-cons (λ x. length (left x)) a (range_with_len (a + 1) n),
    )
    (elim (cases_lt a b) [
      | inl lt ↦ rw (ne_eqb b a (λ e. absurd (omega arith)))
          (omega (arith, left_less left b (a + 1) n (omega arith) (omega arith) h))
      | inr ge ↦
          let same : b ≡ a = omega arith in
          rw (eq-eqb b a same)
          (let long : 0 < length (left a) = subst (λ (x : ℕ). 0 < length (left x)) same h in
          omega (arith, one_less (left a) long, left_same left b (a + 1) n (omega arith)))
    ])

pub all_done : (left : Queues) (a n : ℕ) → sum_by (λ x. length (left x)) (range_with_len a n) ≡ 0
    → filter (is_live left) (range_with_len a n) ≡ []
all_done left a zero h = refl
all_done left a (suc n) h =
    let more = range_with_len (a + 1) n in
    let both : length (left a) + sum_by (λ x. length (left x)) more ≡ 0 =
    sym (sum_by-cons (λ x. length (left x)) a more) ∙ h in
    let none : length (left a) ≡ 0 = omega arith in
    let rest : sum_by (λ x. length (left x)) more ≡ 0 = omega arith in
    rw none (all_done left (a + 1) n rest)

pub some_live : (left : Queues) (a n m : ℕ)
    → sum_by (λ x. length (left x)) (range_with_len a n) ≡ suc m
    → 0 < length (filter (is_live left) (range_with_len a n))
some_live left a zero m h = cc
some_live left a (suc n) m h =
    let more = range_with_len (a + 1) n in
    let both : length (left a) + sum_by (λ x. length (left x)) more ≡ suc m =
    sym (sum_by-cons (λ x. length (left x)) a more) ∙ h in
    elim (eqb_tells (length (left a)) 0) [
      | inl z ↦ rw z.0 (some_live left (a + 1) n m (omega (arith, z.1)))
      | inr z ↦ rw z.0 (omega arith)
    ]

-- The picks of a picker are a whole list
pub picks_whole : {S : Type 0} (p : Picker S) (banks n : ℕ) (s : S) (left : Queues) → PicksLive p
    → total_left banks left ≡ n → IsWhole banks (picks p banks n s left) left
picks_whole p banks zero s left ok h = all_done left 0 banks h
picks_whole p banks (suc n) s left ok h =
    let some = some_live left 0 banks n h in
    let count = length (live banks left) in
    let lt = ok s count some in
    let at = live_at left 0 banks (p.choice s count) lt in
    let b = picked banks left (p.choice s count) in
    let less = left_less left b 0 banks at.0 at.1 at.2 in
    (lt, picks_whole p banks n (p.next s count) (without_next b left) ok (omega (arith, less)))

pub turns_answer : PicksLive in_turn
turns_answer Ahead count h = h
turns_answer (Turning t) count h = omega arith
turns_answer (Drawing state) count h = omega arith

-- the picks of every order in force are a whole list
pub turns_whole : PicksAreWhole
turns_whole turn banks left = picks_whole in_turn banks (total_left banks left) turn left
    turns_answer refl
