-- A wave pick by pick.
use Rattle.std.proofs.Common.{◌≡◌, ℕ, zero, suc, ◌+◌, ◌<◌, ◌≤◌, List, [], ◌∷◌, ◌++◌, length, get_or}
use Rattle.std.proofs.Common.{take}
use Rattle.std.proofs.Common.{refl, sym, ◌∙◌, ap, subst, arith, map-id, cond}
use Rattle.std.specs.List.{range_with_len, filter, sum_by}
use Rattle.std.proofs.lemmas.List.Sums.{sum_by-cons}
use Rattle.std.proofs.lemmas.List.FromFn.{filter_of_map_range_with_len_more}
use Rattle.dram_model.specs.Chip.{Event}
use Rattle.dram_model.specs.Events.{row_events}
use Rattle.wave_model.specs.Schedule.{Queues, is_live, live, picked, without_next, events_of_picks}
use Rattle.wave_model.specs.Schedule.{Picker, PicksLive, picks, state_after, total_left}
use Rattle.wave_model.specs.Schedule.{whole_picks, last_state}
use Rattle.wave_model.proofs.Waves.{live_at, live_none, left_less}

empty_total : (left : Queues) (a n : ℕ) → ((b : ℕ) → a ≤ b → b < a + n → left b ≡ [])
    → sum_by (λ x. length (left x)) (range_with_len a n) ≡ 0
empty_total left a zero none = refl
empty_total left a (suc n) none =
    let here : left a ≡ [] = none a (omega arith) (omega arith) in
    let more : sum_by (λ x. length (left x)) (range_with_len (a + 1) n) ≡ 0 =
    empty_total left (a + 1) n (λ b l m. none b (omega (arith, l)) (omega (arith, m))) in
    sum_by-cons (λ x. length (left x)) a (range_with_len (a + 1) n)
    ∙ omega (arith, ap length here, more)

-- where no bank is live, nothing is left
pub none_left : (banks : ℕ) (left : Queues) → live banks left ≡ [] → total_left banks left ≡ 0
none_left banks left none = empty_total left 0 banks (λ b l m. live_none left 0 banks b none l m)

-- a live bank more past the last, or none
pub live_more : (n : ℕ) (left : Queues)
    → live (n + 1) left ≡ live n left ++ cond (is_live left n) (n ∷ []) []
live_more n left =
    let p = is_live left in
    ap (filter p) (sym (map-id (range_with_len 0 (n + 1))))
    ∙ filter_of_map_range_with_len_more p (λ x. x) 0 n n (omega arith)
    ∙ ap (λ xs. filter p xs ++ cond (p n) (n ∷ []) []) (map-id (range_with_len 0 n))

module _ {S : Type 0} (p : Picker S) (banks : ℕ) where
  -- the events of the picks of a state
  abbrev pub events_from : S → Queues → List Event
  events_from s left = events_of_picks banks (whole_picks p banks s left) left

  -- a pick more: its bank does its next command, and what is left is a wave again
  pub record OnePick (s : S) (left : Queues) (b : ℕ) (s' : S) : Type 0 where
    pub events : events_from s left
        ≡ row_events b (take 1 (left b)) ++ events_from s' (without_next b left)
    pub state : last_state p banks s left ≡ last_state p banks s' (without_next b left)
    pub total : total_left banks left ≡ suc (total_left banks (without_next b left))
    pub within : b < banks
    pub some : 0 < length (left b)

  one_at : (s : S) (left : Queues)
      → p.choice s (length (live banks left)) < length (live banks left)
      → OnePick s left (picked banks left (p.choice s (length (live banks left))))
      (p.next s (length (live banks left)))
  one_at s left lt =
      let pick = p.choice s (length (live banks left)) in
      let b = picked banks left pick in
      let s' = p.next s (length (live banks left)) in
      let at = live_at left 0 banks pick lt in
      let less = left_less left b 0 banks at.0 at.1 at.2 in
      let total : total_left banks left ≡ suc (total_left banks (without_next b left)) =
      omega (arith, less) in
      record {
        events = ap (λ n. events_of_picks banks (picks p banks n s left) left) total;
        state = ap (λ n. state_after p banks n s left) total;
        total = total;
        within = omega (arith, at.1);
        some = at.2;
      }

  pub one_pick : (s : S) (left : Queues) (b : ℕ) (s' : S) (count pick : ℕ) → PicksLive p
      → count ≡ length (live banks left) → 0 < count → pick ≡ p.choice s count
      → s' ≡ p.next s count → b ≡ get_or (live banks left) pick 0 → OnePick s left b s'
  one_pick s left b s' count pick ok long some chosen after is =
      let lt : p.choice s (length (live banks left)) < length (live banks left) =
      ok s (length (live banks left)) (omega (arith, long)) in
      let bank : b ≡ picked banks left (p.choice s (length (live banks left))) =
      is ∙ ap (λ k. get_or (live banks left) k 0) (chosen ∙ ap (p.choice s) long) in
      let state : s' ≡ p.next s (length (live banks left)) = after ∙ ap (p.next s) long in
      subst (λ (x : S). OnePick s left b x) (sym state)
      (subst (λ (x : ℕ). OnePick s left x (p.next s (length (live banks left)))) (sym bank)
      (one_at s left lt))

  -- the end of the wave
  pub record NoPick (s : S) (left : Queues) : Type 0 where
    pub events : events_from s left ≡ []
    pub state : last_state p banks s left ≡ s

  pub no_pick : (s : S) (left : Queues) → live banks left ≡ [] → NoPick s left
  no_pick s left none =
      let total = none_left banks left none in
      record {
        events = ap (λ n. events_of_picks banks (picks p banks n s left) left) total;
        state = ap (λ n. state_after p banks n s left) total;
      }
