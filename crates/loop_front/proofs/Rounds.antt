-- Rounds that do the same at the same rows keep what a round keeps, when a run does rounds, and how
-- each round finds the states that it reads where the steps find theirs by the test.
use Rattle.loop_front.proofs.Common.{◌≡◌, ℕ, zero, suc, ◌<◌, true, List, [], ◌∷◌, ◌++◌, length}
use Rattle.loop_front.proofs.Common.{refl, sym, ap, ◌∙◌, subst, arith, ◌+◌, ◌-◌, ◌≤◌, Bool}
use Rattle.loop_front.proofs.Common.{slice_index, nat_le, AllByRecursion, list_all, range_with_len}
use Rattle.loop_front.proofs.Common.{Place, Block, StepOf, FlowOf, EventOf, run, Done, Moved}
use Rattle.loop_front.proofs.Common.{Counted, is_safe, is_event_safe, IsRound, RoundOf, rounds_in}
use Rattle.loop_front.proofs.Common.{rounds, all_rounds, flow_rounds, Spot, IsOwn, is_state}
use Rattle.loop_front.proofs.Common.{nth_place, and_parts, WIDTH_MAX, Single, Along, Flowed}
use Rattle.std.proofs.Common.{append_assoc}
use Rattle.loop_ir.specs.FlowTests.{widths}
use Rattle.loop_ir.specs.Spots.{nth_spot}
use Rattle.loop_ir.specs.Chains.{states_in, is_alive, finds, left_by, chained, loop_finds}
use Rattle.loop_ir.specs.Chains.{steps_find, flow_finds}
use Rattle.loop_laws.proofs.FlowLogic.{wp, after, AllFine, sound}
use Rattle.std.proofs.lemmas.List.FromFn.{get_or-range_with_len, length-range_with_len}
use Rattle.std.proofs.lemmas.List.Sums.{AllPass-from_list_all}
use Rattle.loop_front.specs.Like.{IsSameRow, AreSameRows, IsLike, AreLike}

-- what a body does with these registers
abbrev pub round_in : Block → List ℕ → RoundOf Block
round_in b g = record { part = b; i = 0; regs = g }

-- the second round does what the first does, and places that were equal are
pub record IsCopy (n : ℕ) (r s : RoundOf Block) : Type 0 where
  pub like : IsLike n r s
  pub same : (j k : ℕ) → j < length r.part.writes → k < length r.part.reads
      → nth_place r.part.writes j ≡ nth_place r.part.reads k
      → nth_place s.part.writes j ≡ nth_place s.part.reads k

module _ (n : ℕ) (r s : RoundOf Block) where
  -- what is the same of these places
  record AreSame (ps qs : List Place) : Type 0 where
    long : length qs ≡ length ps
    row : (k : ℕ) → IsSameRow n r s (nth_place ps k) (nth_place qs k)
    states : states_in qs ≡ states_in ps

  no_row : (k : ℕ) → IsSameRow n r s (nth_place [] k) (nth_place [] k)
  no_row k = record { space = refl; which = refl; index = refl }

  same_of : (ps qs : List Place) → AreSameRows n r s ps qs → AreSame ps qs
  same_of [] [] h = record { long = refl; row = no_row; states = refl }
  same_of [] (q ∷ qs) h = absurd h
  same_of (p ∷ ps) [] h = absurd h
  same_of (p ∷ ps) (q ∷ qs) h = let t = same_of ps qs h.1 in record {
    long = ap suc t.long;
    row = λ k. elim k as (λ k. IsSameRow n r s (nth_place (p ∷ ps) k) (nth_place (q ∷ qs) k)) [
      | zero ↦ h.0
      | suc k ↦ t.row k
    ];
    states = cc;
  }

  spot : (ps qs : List Place) → AreSame ps qs → (k : ℕ)
      → nth_spot n s.i s.regs qs k ≡ nth_spot n r.i r.regs ps k
  spot ps qs t k = let e = t.row k in cc

  still_round : (may_have : Spot → Type 0) → IsRound may_have n r → IsCopy n r s
      → IsRound may_have n s
  still_round may_have h c =
      let x = same_of r.part.reads s.part.reads c.like.reads in
      let y = same_of r.part.writes s.part.writes c.like.writes in
      let at = spot r.part.reads s.part.reads x in
      let to = spot r.part.writes s.part.writes y in
      record {
        reads = λ k lt e. subst may_have (sym (at k))
            (h.reads k (omega arith) (sym (ap is_state (x.row k).space) ∙ e));
        writes = λ j lt e. subst may_have (sym (to j))
            (h.writes j (omega arith) (sym (ap is_state (y.row j).space) ∙ e));
        own = λ j lt. subst (λ p. IsOwn p.space) (sym (to j)) (h.own j (omega arith));
        apart = λ i j li lj e. h.apart i j (omega arith) (omega arith) (cc (to i, to j));
        same = λ j k lj lk e. c.same j k (omega arith) (omega arith)
            (h.same j k (omega arith) (omega arith) (cc (to j, at k)));
        once = λ j k l lj lk ll e f. h.once j k l (omega arith) (omega arith) (omega arith)
            (cc (to j, at k)) (cc (to j, at l));
      }

  -- it finds and leaves the same states
  finds_like : (alive : List ℕ) → IsLike n r s → finds alive s.part ≡ finds alive r.part
  finds_like alive l = ap (λ ws. list_all (λ w. is_alive w alive) ws)
      (same_of r.part.reads s.part.reads l.reads).states

  left_like : IsLike n r s → left_by s.part ≡ left_by r.part
  left_like l = (same_of r.part.writes s.part.writes l.writes).states

module _ (n : ℕ) where
  -- the event is safe, and a body does the next round
  abbrev pub Fits : EventOf Block → List (RoundOf Block) → Type 0
  Fits (Done b g) [] = ⊥
  Fits (Done b g) (r ∷ rs) = IsCopy n r (round_in b g)
  Fits (Moved m g) rs = is_safe m g ≡ true
  Fits (Counted r g) rs = nat_le (slice_index g r) n ≡ true

  -- the rounds that are left then
  abbrev pub later : Block → List ℕ → List (RoundOf Block) → List (RoundOf Block)
  later b g [] = []
  later b g (r ∷ rs) = rs

  -- what is to hold of the registers and of the rounds that are still to do
  abbrev pub Claim : Type 1
  Claim = List ℕ → List (RoundOf Block) → Type 0

  -- what must hold before a flow, so that this holds after it
  abbrev pub W : FlowOf Block → Claim → Claim
  W f = wp Block (List (RoundOf Block)) n Fits later f

  -- Moves and rounds, and then a flow: they do these rounds where this holds of the registers, which
  -- are so then
  abbrev pub Leads : (FlowOf Block → FlowOf Block) → List (RoundOf Block) → (List ℕ → Type 0)
      → (List ℕ → List ℕ → Type 0) → Type 1
  Leads f done P T = (k : FlowOf Block) (Q : Claim) (rs : List (RoundOf Block)) (g : List ℕ) → P g
      → ((h : List ℕ) → T g h → W k Q h rs) → W (f k) Q g (done ++ rs)

  module _ (may_have : Spot → Type 0) where
    -- the events do the rounds, and are safe
    abbrev pub AreDone : List ℕ → List (RoundOf Block) → List (EventOf Block) → Type 0
    AreDone alive rs es = AreLike n rs (rounds_in es)
        × AllByRecursion (IsRound may_have n) (rounds_in es)
        × (chained alive (rounds_in es) ≡ true) × (list_all (is_event_safe n) es ≡ true)

    all_done : (es : List (EventOf Block)) (rs : List (RoundOf Block)) (alive : List ℕ)
        → AllFine Block (List (RoundOf Block)) n Fits later es rs
        → after Block (List (RoundOf Block)) n Fits later es rs ≡ []
        → AllByRecursion (IsRound may_have n) rs → chained alive rs ≡ true → AreDone alive rs es
    unfolding after AllFine
    all_done [] [] alive f e is ch = (tt, tt, refl, refl)
    all_done [] (r ∷ rs) alive f e is ch = cc
    all_done (Done b g ∷ es) [] alive f e is ch = absurd f.0
    all_done (Done b g ∷ es) (r ∷ rs) alive f e is ch =
        let t = all_done es rs (left_by b) f.1 e is.1 (subst (λ l. chained l rs ≡ true)
        (sym (left_like n r (round_in b g) f.0.like)) (grind (arith, ch))) in (
          (f.0.like, t.0),
          (still_round n r (round_in b g) may_have is.0 f.0, t.1),
          grind (arith, finds_like n r (round_in b g) alive f.0.like, ch, t.2),
          t.3,
        )
    all_done (Moved m g ∷ es) rs alive f e is ch = let t = all_done es rs alive f.1 e is ch in
        (t.0, t.1, t.2, grind (arith, f.0, t.3))
    all_done (Counted r g ∷ es) rs alive f e is ch = let t = all_done es rs alive f.1 e is ch in
        (t.0, t.1, t.2, grind (arith, f.0, t.3))

    -- a run that does the rounds
    pub runs_from : (f : FlowOf Block) (g : List ℕ) (rs : List (RoundOf Block))
        → W f (λ h left. left ≡ []) g rs → AllByRecursion (IsRound may_have n) rs
        → chained [] rs ≡ true → AreDone [] rs (run n f g).events
    runs_from f g rs w is ch =
        let s = sound Block (List (RoundOf Block)) n Fits later f (λ h left. left ≡ []) g rs w in
        all_done (run n f g).events rs [] s.fine s.post is ch

-- both have the same in these registers
pub record IsSame (P : ℕ → Type 0) (g h : List ℕ) : Type 0 where
  pub long : length h ≡ 8
  pub same : (q : ℕ) → P q → slice_index h q ≡ slice_index g q

-- the first registers are as they were
abbrev pub IsKept : ℕ → List ℕ → List ℕ → Type 0
IsKept many = IsSame (λ q. q < many)

-- register r alone has changed
abbrev pub IsChange : ℕ → List ℕ → List ℕ → Type 0
IsChange r = IsSame (λ q. q ≡ r → ⊥)

pub fewer : {P R : ℕ → Type 0} {g h : List ℕ} → IsSame P g h → ((q : ℕ) → R q → P q) → IsSame R g h
fewer s less = record { long = s.long; same = λ q l. s.same q (less q l) }

pub same_then : {P : ℕ → Type 0} {g h x : List ℕ} → IsSame P g h → IsSame P h x → IsSame P g x
same_then s t = record { long = t.long; same = λ q l. t.same q l ∙ s.same q l }

-- what a test on the widths says of one
pub at_width : (t : ℕ → Bool) (n a count : ℕ) → a ≤ n → n < a + count
    → list_all t (range_with_len a count) ≡ true → t n ≡ true
at_width t n a count low high h =
    let lt : n - a < count = omega arith in
    let e : a + (n - a) ≡ n = omega arith in
    let p = AllPass-from_list_all t (range_with_len a count) h (n - a) 0
    (omega (arith, length-range_with_len a count)) in
    subst (λ k. t k ≡ true) (get_or-range_with_len a count (n - a) 0 lt ∙ e) p

pub one_width : (t : ℕ → Bool) (n : ℕ) → 0 < n → n ≤ WIDTH_MAX → list_all t widths ≡ true
    → t n ≡ true
one_width t n some small h = at_width t n 1 WIDTH_MAX (omega (arith, some)) (omega (arith, small)) h

-- what finds its states among none finds them among any
any_find : (ws alive : List ℕ) → list_all (λ w. is_alive w []) ws ≡ true
    → list_all (λ w. is_alive w alive) ws ≡ true
any_find [] alive h = refl
any_find (w ∷ ws) alive h = cc

any_chained : (rs : List (RoundOf Block)) (alive : List ℕ) → chained [] rs ≡ true
    → chained alive rs ≡ true
any_chained [] alive h = refl
any_chained (r ∷ rs) alive h = grind (arith, any_find (states_in r.part.reads) alive)

-- rounds that need none come after any
both_chained : (xs ys : List (RoundOf Block)) (alive : List ℕ) → chained alive xs ≡ true
    → chained [] ys ≡ true → chained alive (xs ++ ys) ≡ true
both_chained [] ys alive h k = any_chained ys alive k
both_chained (r ∷ rs) ys alive h k = grind (arith, both_chained rs ys (left_by r.part))

-- at least one round of a body, and what comes after them
along : (rest : List (RoundOf Block)) (b : Block) (i count : ℕ) (alive : List ℕ) → 0 < count
    → loop_finds alive b ≡ true → chained (left_by b) rest ≡ true
    → chained alive (rounds b i count ++ rest) ≡ true
along rest b i zero alive some h k = absurd (omega arith)
along rest b i (suc zero) alive some h k = grind arith
along rest b i (suc (suc m)) alive some h k =
    let more = along rest b (i + 1) (suc m) (left_by b) (omega arith) (grind arith) k in
    grind arith

module _ (n : ℕ) where
  pub steps_chained : (ss : List (StepOf Block)) (alive : List ℕ) → 0 < n → n ≤ WIDTH_MAX
      → steps_find alive ss ≡ true → chained alive (all_rounds n ss) ≡ true
  steps_chained [] alive some small h = refl
  steps_chained (Single b ∷ ss) alive some small h =
      grind (arith, steps_chained ss (left_by b) some small)
  steps_chained (Along b ∷ ss) alive some small h =
      along (all_rounds n ss) b 0 n alive some (grind arith)
      (steps_chained ss (left_by b) some small (grind arith))
  steps_chained (Flowed f ∷ ss) alive some small h =
      let p = and_parts (flow_finds f) (steps_find [] ss) h in
      both_chained (flow_rounds n f) (all_rounds n ss) alive (any_chained (flow_rounds n f) alive
      (one_width (λ m. chained [] (flow_rounds m f)) n some small p.0))
      (steps_chained ss [] some small p.1)
