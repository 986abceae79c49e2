-- A wave on its way.
use Rattle.uprog_ctl.proofs.Common.{◌≡◌, ℕ, suc, ◌+◌, ◌<◌, ◌≤◌, List, [], ◌∷◌, ◌++◌, length, map}
use Rattle.uprog_ctl.proofs.Common.{take, get_or, refl, sym, ap, ◌∙◌, subst, arith, append-nil}
use Rattle.uprog_ctl.proofs.Common.{Some, inl, inr, slice_get, sum_by, take_at, length-map, Command}
use Rattle.uprog_ctl.proofs.Common.{Counters, Banks, Row, row_events, ChipView, Did, FailedIn}
use Rattle.uprog_ctl.proofs.Common.{Did-none, Did-more, counted-bound, Queues, live, Picker}
use Rattle.uprog_ctl.proofs.Common.{PicksLive, total_left, without_next, whole_picks, picks_whole}
use Rattle.std.proofs.Common.{append_assoc}
use Rattle.std.proofs.lemmas.List.{nil_from_length}
use Rattle.std.proofs.lemmas.List.Sums.{sum_by-set, sum_by-remove}
use Rattle.dram_model.specs.Chip.{Event, after, Grew}
use Rattle.dram_model.proofs.EventLaws.{Grew-more}
use Rattle.wave_model.specs.Schedule.{last_state}
use Rattle.wave_model.proofs.Turning.{OnePick, one_pick, no_pick}
use Rattle.wave_model.proofs.Prefixes.{wave_stops}
use Rattle.uprog_ctl.specs.declared.cursor.Cursor.{Cursor}
use Rattle.uprog_ctl.specs.Waves.{BoundJob, wave_events, StoppedAmong}
use Rattle.uprog_ctl.specs.Cursors.{AreAt, MovesOn, left_after}
use Rattle.uprog_ctl.proofs.Follow.{kth_bank, moves_on}

-- how much the cursors have still to do
abbrev pub work_of : ℕ → List BoundJob → Cursor → ℕ
work_of rows jobs c = suc (length (left_after rows jobs c))

abbrev pub work : ℕ → List BoundJob → List Cursor → ℕ
work rows jobs cs = sum_by (work_of rows jobs) cs

-- a cursor that goes on has less to do
pub less_work : (rows : ℕ) (jobs : List BoundJob) (cs : List Cursor) (k : ℕ) (d : Cursor)
    (new : List Cursor) → k < length cs → MovesOn rows jobs cs k new
    → work rows jobs new < work rows jobs cs
less_work rows jobs cs k d new lt (inl on) =
    let c = on.0 in
    let following : length (left_after rows jobs (get_or cs k c))
    ≡ suc (length (left_after rows jobs c)) = ap length on.1.at.left in
    let set_sum = sum_by-set (work_of rows jobs) cs k c c lt in
    subst (λ (xs : List Cursor). work rows jobs xs < work rows jobs cs) (sym on.1.cursors)
    (omega (arith, following, set_sum))
less_work rows jobs cs k d new lt (inr none) =
    let gone = sum_by-remove (work_of rows jobs) cs k d lt in
    subst (λ (xs : List Cursor). work rows jobs xs < work rows jobs cs) (sym none.1)
    (omega (arith, gone))

row_one : (b : ℕ) (cs more : List Command) (c : Command) → cs ≡ c ∷ more
    → row_events b (take 1 cs) ≡ Row b c ∷ []
row_one b cs more c e = ap (λ (q : List Command). row_events b (take 1 q)) e

get_at : (xs ys : List Event) (y : Event) (all : List Event) → all ≡ xs ++ (y ∷ [] ++ ys)
    → slice_get all (length xs) ≡ Some y
get_at xs ys y all e = ap (λ zs. slice_get zs (length xs)) e ∙ go xs
  where
    go : (xs : List Event) → slice_get (xs ++ (y ∷ [] ++ ys)) (length xs) ≡ Some y
    go [] = refl
    go (x ∷ xs) = go xs

-- the k-th of the cursors is picked, in this state, which leaves that one
pub record Chosen {S : Type 0} (p : Picker S) (s s' : S) (cs : List Cursor) (k : ℕ) : Type 0 where
  pub choice : k ≡ p.choice s (length cs)
  pub next : s' ≡ p.next s (length cs)
  pub within : k < length cs

pub chosen_by : {S : Type 0} (p : Picker S) (s s' : S) (cs : List Cursor) (k pick n : ℕ)
    → PicksLive p → 0 < length cs → k ≡ pick → pick ≡ p.choice s n → s' ≡ p.next s n
    → n ≡ length cs → Chosen p s s' cs k
chosen_by p s s' cs k pick n ok some e choice next long =
    let is : k ≡ p.choice s (length cs) = e ∙ choice ∙ ap (p.choice s) long in
    record {
      choice = is;
      next = next ∙ ap (p.next s) long;
      within = omega (arith, is, ok s (length cs) some);
    }

module _ {S : Type 0} (p : Picker S) (banks rows : ℕ) (jobs : List BoundJob) (s0 : S) (qs : Queues)
    (first : ChipView) where
  -- these events are done, and what is left is the wave of the cursors
  pub record SoFar (s : S) (now : ChipView) (cs : List Cursor) : Type 0 where
    pub left : Queues
    pub done : List Event
    pub at : AreAt banks rows jobs left cs
    pub did : Did done first now
    pub events : wave_events p banks s0 qs ≡ done ++ wave_events p banks s left
    pub state : last_state p banks s0 qs ≡ last_state p banks s left
    pub aap : now.counters.aap + total_left banks left ≤ first.counters.aap + total_left banks qs
    pub ap : now.counters.ap + total_left banks left ≤ first.counters.ap + total_left banks qs

  pub nothing_yet : (cs : List Cursor) → AreAt banks rows jobs qs cs → SoFar s0 first cs
  nothing_yet cs at = record {
    left = qs;
    done = [];
    at = at;
    did = Did-none first;
    events = refl;
    state = refl;
    aap = omega arith;
    ap = omega arith;
  }

  -- the k-th cursor does its command, and the wave goes on after it
  module _ (s s' : S) (now : ChipView) (cs : List Cursor) (k : ℕ) (so : SoFar s now cs)
      (ok : PicksLive p) (it : Chosen p s s' cs k) where
    long : length cs ≡ length (live banks so.left)
    long = sym (length-map cs (λ (c : Cursor). c.bank)) ∙ ap length so.at.live

    pick_of : (d : Cursor) → OnePick p banks s so.left (get_or cs k d).bank s'
    pick_of d =
        one_pick p banks s so.left (get_or cs k d).bank s' (length cs) k ok long
        (omega (arith, it.within)) it.choice it.next
        (kth_bank banks rows jobs so.left cs k so.at it.within k d it.within)

    one_event : (d : Cursor) → wave_events p banks s so.left
        ≡ Row (get_or cs k d).bank (get_or cs k d).next ∷ []
        ++ wave_events p banks s' (without_next (get_or cs k d).bank so.left)
    one_event d =
        let one = pick_of d in
        let c = get_or cs k d in
        one.events ∙ ap (λ es. es ++ wave_events p banks s' (without_next c.bank so.left))
        (row_one c.bank (so.left c.bank) (left_after rows jobs c) c.next
        (so.at.each k d it.within).left)

    pub bank_within : (d : Cursor) → (get_or cs k d).bank < banks
    bank_within d = (pick_of d).within

    pub one_more : (d : Cursor) (new : ChipView) (cs' : List Cursor)
        → Did (Row (get_or cs k d).bank (get_or cs k d).next ∷ []) now new
        → MovesOn rows jobs cs k cs' → SoFar s' new cs'
    one_more d new cs' did moves =
        let c = get_or cs k d in
        let one : List Event = Row c.bank c.next ∷ [] in
        let pick = pick_of d in
        let rest = wave_events p banks s' (without_next c.bank so.left) in
        let bound = counted-bound one now.counters in
        let counted = did.counters in
        record {
          left = without_next c.bank so.left;
          done = so.done ++ one;
          at = moves_on banks rows jobs so.left cs k so.at it.within cs' c.bank d refl moves;
          did = Did-more so.done one first now new so.did did;
          events = so.events ∙ ap (λ es. so.done ++ es) (one_event d)
              ∙ sym (append_assoc so.done one rest);
          state = so.state ∙ pick.state;
          aap = omega (
            arith,
            pick.total,
            so.aap,
            bound.0,
            ap (λ (n : Counters). n.aap) counted,
          );
          ap = omega (
            arith,
            pick.total,
            so.ap,
            bound.1,
            ap (λ (n : Counters). n.ap) counted,
          );
        }

    -- the call for it failed
    pub stopped : (d : Cursor) (new : ChipView) → banks ≡ first.geometry.banks
        → first.faults ≤ now.faults → FailedIn (get_or cs k d).bank now new
        → Grew now.log new.log [] → StoppedAmong (wave_events p banks s0 qs) qs first new
    stopped d new shape faults failed no_event =
        let c = get_or cs k d in
        let all = wave_events p banks s0 qs in
        let rest = wave_events p banks s' (without_next c.bank so.left) in
        let whole : all ≡ so.done ++ (Row c.bank c.next ∷ [] ++ rest) =
        so.events ∙ ap (λ es. so.done ++ es) (one_event d) in
        let part : take (length so.done) all ≡ so.done = ap (take (length so.done)) so.events
        ∙ take_at so.done (wave_events p banks s so.left) (length so.done) refl in
        let is_whole = picks_whole p banks (total_left banks qs) s0 qs ok refl in
        let here : now.banks ≡ after (take (length so.done) all) first.banks = so.did.banks
        ∙ ap (λ es. after es first.banks) (sym part) in
        let known : Grew first.log new.log (so.done ++ []) =
        Grew-more first.log now.log new.log so.done [] so.did.log no_event in
        record {
          done = length so.done;
          bank = c.bank;
          command = c.next;
          failed = get_at so.done rest (Row c.bank c.next) all whole;
          others = λ b ne. failed.others b ne ∙ ap (λ (bs : Banks). bs b) here;
          alone = λ b ne l.
              let stop = wave_stops banks (whole_picks p banks s0 qs) qs first.banks b
              (length so.done) is_whole (subst (λ n. b < n) (sym shape) l) in
              (stop.0, failed.others b ne ∙ ap (λ (bs : Banks). bs b) here ∙ stop.1);
          known = subst (λ es. Grew first.log new.log es) (append-nil so.done ∙ sym part) known;
          rose = omega (arith, failed.rose, faults);
        }

  -- no bank has commands left
  pub all_over : (s : S) (now : ChipView) (cs : List Cursor) → SoFar s now cs → length cs ≡ 0
      → Did (wave_events p banks s0 qs) first now × (s ≡ last_state p banks s0 qs)
  all_over s now cs so none =
      let no_live : live banks so.left ≡ [] = sym so.at.live
      ∙ ap (λ (xs : List Cursor). map (λ (c : Cursor). c.bank) xs) (nil_from_length cs none) in
      let end = no_pick p banks s so.left no_live in (
        subst (λ es. Did es first now) (sym (so.events ∙ ap (λ es. so.done ++ es) end.events
            ∙ append-nil so.done)) so.did,
        sym (so.state ∙ end.state),
      )
