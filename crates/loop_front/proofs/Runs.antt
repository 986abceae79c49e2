-- A run of the flow of a loop program does the program's rounds.
use Rattle.loop_front.proofs.Common.{◌≡◌, ℕ, suc, ◌+◌, ◌-◌, ◌<◌, ◌≤◌, Bool, true, false, List, []}
use Rattle.loop_front.proofs.Common.{◌∷◌, ◌++◌, length, refl, sym, ap, ◌∙◌, subst, arith}
use Rattle.loop_front.proofs.Common.{length-set, get_or-set_same, get_or-set_other, map, inl, inr}
use Rattle.loop_front.proofs.Common.{slice_index, slice_set, nat_le, list_all, AllByRecursion}
use Rattle.loop_front.proofs.Common.{cases_Bool, and_parts, list_all-append, WIDTH_MAX, SetN, Move}
use Rattle.loop_front.proofs.Common.{Sub, Zero, Inner, InnerDown, Register, Place, Block, StepOf}
use Rattle.loop_front.proofs.Common.{Single, Along, Flowed, FlowOf, End, Do, Put, Loop, Last}
use Rattle.loop_front.proofs.Common.{RoundOf, rounds, step_rounds, all_rounds, sub_value, round_at}
use Rattle.loop_front.proofs.Common.{Spot, same_sub, CanCompile, may_stand, all_stand, step_stands}
use Rattle.loop_front.proofs.Common.{sub_true}
use Rattle.std.proofs.lemmas.Bool.{le-leb}
use Rattle.loop_laws.proofs.FlowLogic.{wp_loop}
use Rattle.loop_front.specs.Front.{used_subs, in_register, placed, in_registers, start, before}
use Rattle.loop_front.specs.Front.{after, each_sub, put_all, starts, round_flow, each_flow, step_flow}
use Rattle.loop_front.specs.Front.{steps_flow, front}
use Rattle.loop_front.specs.Like.{AreSameRows}
use Rattle.loop_front.specs.FlowOfSteps.{IsRunOf}
use Rattle.loop_front.proofs.Rounds.{Fits, later, Claim, W, Leads, IsKept, IsChange, fewer}
use Rattle.loop_front.proofs.Rounds.{same_then, runs_from, round_in, IsCopy, steps_chained}
use Rattle.loop_front.proofs.Clearing.{flow_does}
use Rattle.loop_front.proofs.Bodies.{nth_map, IsIndex, all_used, used_few, IsKnown, AreKnown}
use Rattle.loop_front.proofs.Bodies.{known_reads, known_writes}
use Rattle.loop_front.proofs.Built.{put_both}

-- what holds of the registers of these subscripts, of which the first has register r
abbrev Held : (Sub → ℕ → Type 0) → List ℕ → List Sub → ℕ → Type 0
Held P g [] r = Unit {0}
Held P g (s ∷ ss) r = P s (slice_index g r) × Held P g ss (r + 1)

-- they hold the values at this index
module _ (n i : ℕ) (g : List ℕ) where
  abbrev HeldNow : List Sub → ℕ → Type 0
  HeldNow = Held (λ s v. v ≡ sub_value n i [] s) g

  value_in : (ts : List Sub) (r : ℕ) (s : Sub) → HeldNow ts r → IsKnown ts s
      → sub_value n 0 g (in_register ts r s) ≡ sub_value n i [] s
  value_in [] r s held known = ap (sub_value n i []) (sym (known refl))
  value_in (t ∷ ts) r s held known =
      elim (cases_Bool (same_sub s t)) [
        | inl e ↦ rw e (held.0 ∙ ap (sub_value n i []) (sym (sub_true s t e)))
        | inr e ↦ rw e (value_in ts (r + 1) s held.1 (λ f. known (grind arith)))
      ]

  same_rows : (b : Block) → HeldNow (used_subs b) 3 → (ps : List Place) → AreKnown (used_subs b) ps
      → AreSameRows n (round_at b i) (round_in (in_registers b) g) ps
      (map (placed (used_subs b)) ps)
  same_rows b held [] known = tt
  same_rows b held (p ∷ ps) known =
      let e = value_in (used_subs b) 3 p.sub held known.0 in
      (record { space = refl; which = refl; index = e }, same_rows b held ps known.1)

-- the body in registers does the round
copy_is : (b : Block) → all_stand true b ≡ true → (n i : ℕ) (g : List ℕ)
    → HeldNow n i g (used_subs b) 3 → IsCopy n (round_at b i) (round_in (in_registers b) g)
copy_is b st n i g held = record {
  like = record {
    graph = refl;
    outs = refl;
    found = refl;
    reads = same_rows n i g b held b.reads (known_reads b st);
    writes = same_rows n i g b held b.writes (known_writes b st);
  };
  same = λ j k lj lk e. let f = placed (used_subs b) in
      nth_map f b.writes j lj ∙ ap f e ∙ sym (nth_map f b.reads k lk);
}

-- a body that is done once goes by no index: it does its round whatever the registers hold
module _ (n : ℕ) (b : Block) (g : List ℕ) where
  fixed_value : (s : Sub) → may_stand false s ≡ true → sub_value n 0 g s ≡ sub_value n 0 [] s
  fixed_value Zero h = refl
  fixed_value s h = cc

  fixed_rows : (ps : List Place) → list_all (λ p. may_stand false p.sub) ps ≡ true
      → AreSameRows n (round_at b 0) (round_in b g) ps ps
  fixed_rows [] h = tt
  fixed_rows (p ∷ ps) h =
      let e = fixed_value p.sub (grind arith) in
      (record { space = refl; which = refl; index = e }, fixed_rows ps (grind arith))

  fixed_copy : all_stand false b ≡ true → IsCopy n (round_at b 0) (round_in b g)
  fixed_copy h =
      let test = λ (p : Place). may_stand false p.sub in
      let k = and_parts (list_all test b.reads) (list_all test b.writes)
      (sym (list_all-append test b.reads b.writes) ∙ h) in
      record {
        like = record {
          graph = refl;
          outs = refl;
          found = refl;
          reads = fixed_rows b.reads k.0;
          writes = fixed_rows b.writes k.1;
        };
        same = λ i j li lj e. e;
      }

-- a move that is safe sets register r
put_does : {S : Type 0} {v w : ℕ} {g : List ℕ} {C : List ℕ → Type 0} → S → (r : ℕ) → r < 8
    → length g ≡ 8 → ((h : List ℕ) → IsChange r g h × (slice_index h r ≡ w) → C h) → v ≡ w
    → S × C (slice_set g r v)
put_does {v = v} {g = g} safe r lt long done e =
    let others = λ (q : ℕ) (ne : q ≡ r → ⊥). get_or-set_other g r q v 0 ne in
    let this = get_or-set_same g r v 0 (omega (arith, long)) ∙ e in
    (safe, done (slice_set g r v) (record { long = length-set g r v ∙ long; same = others }, this))

held_kept : (P : Sub → ℕ → Type 0) (g h : List ℕ) (ss : List Sub) (r : ℕ)
    → ((q : ℕ) → r ≤ q → slice_index h q ≡ slice_index g q) → Held P g ss r → Held P h ss r
held_kept P g h [] r same t = tt
held_kept P g h (s ∷ ss) r same t =
    let more = held_kept P g h ss (r + 1) (λ q le. same q (omega arith)) t.1 in
    (subst (P s) (sym (same r (omega arith))) t.0, more)

-- a body at each index, where register 2 counts down: what holds at each
module _ (n : ℕ) (b : Block) (body : FlowOf Block) (I : ℕ → List ℕ → Type 0) where
  -- the turn at index i, after which m come
  abbrev Turn : Type 1
  Turn = (i m : ℕ) → i + suc m ≡ n → (R : Claim n) (rs : List (RoundOf Block)) (h : List ℕ) → I i h
      → ((x : List ℕ) → I (i + 1) x → R x rs) → W n body R (slice_set h 2 m) (round_at b i ∷ rs)

  abbrev AtTurn : List (RoundOf Block) → ℕ → List ℕ → List (RoundOf Block) → Type 0
  AtTurn rs m h left = (i : ℕ) × (i + m ≡ n) × I i h × (left ≡ rounds b i m ++ rs)

  loop_does : Turn → Leads n (Loop 2 (Last body)) (rounds b 0 n)
      (λ g. I 0 g × (slice_index g 2 ≡ n)) (λ g h. (i : ℕ) × I i h)
  loop_does turn k Q rs g at done =
      wp_loop Block (List (RoundOf Block)) n (Fits n) (later n) 2 (Last body) (λ ts. AtTurn rs) k Q g
      (rounds b 0 n ++ rs) (le-leb (slice_index g 2) n (omega (arith, at.1)))
      (λ m h left R t more. subst (W n body R (slice_set h 2 m)) (sym t.3)
      (turn t.0 m t.1 R (rounds b (t.0 + 1) m ++ rs) h t.2 (λ x holds. more x
      (rounds b (t.0 + 1) m ++ rs) (t.0 + 1, omega (arith, t.1), holds, refl))))
      (0, omega (arith, at.1), at.0, ap (λ m. rounds b 0 m ++ rs) (sym at.1))
      (λ ts h left t. subst (W n k Q h) (sym t.3) (done h (t.0, t.2)))

abbrev Long : List ℕ → Type 0
Long g = length g ≡ 8

module _ (n : ℕ) (small : n ≤ WIDTH_MAX) where
  -- what moves for a subscript's register do
  abbrev Does : (Sub → ℕ → List Move) → (Sub → ℕ → Type 0) → (Sub → ℕ → Type 0) → Type 1
  Does f P R = (s : Sub) (r : ℕ) → IsIndex s → 3 ≤ r → r < 8 → Leads n (put_all (f s r)) []
      (λ g. Long g × P s (slice_index g r)) (λ g h. IsChange r g h × R s (slice_index h r))

  each_does : (f : Sub → ℕ → List Move) (P R : Sub → ℕ → Type 0) → Does f P R → (ss : List Sub)
      (r : ℕ) → AllByRecursion IsIndex ss → 3 ≤ r → r + length ss ≤ 8
      → Leads n (put_all (each_sub f ss r)) [] (λ g. Long g × Held P g ss r)
      (λ g h. IsKept r g h × Held R h ss r)
  each_does f P R does [] r is low fit k Q rs g at done =
      done g (record { long = at.0; same = λ q l. refl }, tt)
  each_does f P R does (s ∷ ss) r is low fit k Q rs g at done =
      let rest = each_sub f ss (r + 1) in
      subst (λ x. W n x Q g rs) (sym (put_both (f s r) rest k))
      (does s r is.0 low (omega arith) (put_all rest k) Q rs g (at.0, at.1.0) (λ h c.
      let held = held_kept P g h ss (r + 1) (λ q l. c.0.same q (λ e. absurd (omega arith))) at.1.1
      in
      each_does f P R does ss (r + 1) is.1 (omega arith) (omega arith) k Q rs h (c.0.long, held)
      (λ x t.
      let kept = same_then (fewer c.0 (λ q l e. absurd (omega arith)))
      (fewer t.0 (λ q l. omega arith)) in
      done x (kept, (subst (R s) (sym (t.0.same r (omega arith))) c.1, t.1)))))

  -- a subscript's register in a round and before it: that of n - 1 - i holds 1 more before
  abbrev IsNow : ℕ → Sub → ℕ → Type 0
  IsNow i s v = v ≡ sub_value n i [] s

  abbrev IsNext : ℕ → Sub → ℕ → Type 0
  IsNext i InnerDown v = v ≡ n - i
  IsNext i s v = v ≡ sub_value n i [] s

  abbrev Any : Sub → ℕ → Type 0
  Any s v = Unit {0}

  still : (r : ℕ) (g : List ℕ) → Long g → IsChange r g g
  still r g long = record { long = long; same = λ q ne. refl }

  start_does : Does start Any (IsNext 0)
  start_does Zero r is low lt k Q rs g at done = absurd is
  start_does Inner r is low lt k Q rs g at done = put_does refl r lt at.0 done refl
  start_does InnerDown r is low lt k Q rs g at done = put_does refl r lt at.0 done (omega arith)
  start_does (Register q) r is low lt k Q rs g at done = absurd is

  module _ (i : ℕ) (li : i < n) where
    before_does : Does before (IsNext i) (IsNow i)
    before_does Zero r is low lt k Q rs g at done = absurd is
    before_does Inner r is low lt k Q rs g at done = done g (still r g at.0, at.1)
    before_does InnerDown r is low lt k Q rs g at done =
        put_does (le-leb 1 (slice_index g r) (omega (arith, at.1))) r lt at.0 done
        (omega (arith, at.1))
    before_does (Register q) r is low lt k Q rs g at done = absurd is

    after_does : Does after (IsNow i) (IsNext (i + 1))
    after_does Zero r is low lt k Q rs g at done = absurd is
    after_does Inner r is low lt k Q rs g at done =
        put_does (le-leb (slice_index g r + 1) 1023 (omega (arith, at.1))) r lt at.0 done
        (omega (arith, at.1))
    after_does InnerDown r is low lt k Q rs g at done =
        done g (still r g at.0, omega (arith, at.1))
    after_does (Register q) r is low lt k Q rs g at done = absurd is

  -- a body at each index
  module _ (b : Block) (st : all_stand true b ≡ true) where
    abbrev Next : ℕ → List ℕ → Type 0
    Next i g = Held (IsNext i) g (used_subs b) 3

    subs_do : (f : Sub → ℕ → List Move) (P R : Sub → ℕ → Type 0) → Does f P R
        → Leads n (put_all (each_sub f (used_subs b) 3)) [] (λ g. Long g × Held P g (used_subs b) 3)
        (λ g h. IsKept 3 g h × Held R h (used_subs b) 3)
    subs_do f P R does = each_does f P R does (used_subs b) 3 (all_used b) (omega arith)
        (omega (arith, used_few b))

    any : (g : List ℕ) (ss : List Sub) (r : ℕ) → Held Any g ss r
    any g [] r = tt
    any g (s ∷ ss) r = (tt, any g ss (r + 1))

    starts_do : Leads n (put_all (starts b)) [] Long (λ g h. IsKept 3 g h × Next 0 h)
    starts_do k Q rs g at done =
        subs_do start Any (IsNext 0) start_does k Q rs g (at, any g (used_subs b) 3) done

    round_does : (i : ℕ) → i < n → Leads n (round_flow b) (round_at b i ∷ [])
        (λ g. Long g × Next i g) (λ g h. IsKept 3 g h × Held (IsNow i) h (used_subs b) 3)
    round_does i li k Q rs g at done = subs_do before (IsNext i) (IsNow i) (before_does i li)
        (Do (in_registers b) k) Q (round_at b i ∷ rs) g at
        (λ h t. (copy_is b st n i h t.1, done h t))

    abbrev body : FlowOf Block
    body = round_flow b (put_all (each_sub after (used_subs b) 3) End)

    turn_does : Turn n b body (λ i h. Long h × Next i h)
    turn_does i m sum R rs h t done =
        let li : i < n = omega arith in
        let long : Long (slice_set h 2 m) = length-set h 2 m ∙ t.0 in
        let next = held_kept (IsNext i) h (slice_set h 2 m) (used_subs b) 3
        (λ q l. get_or-set_other h 2 q m 0 (λ e. absurd (omega arith))) t.1 in
        round_does i li (put_all (each_sub after (used_subs b) 3) End) R rs (slice_set h 2 m)
        (long, next) (λ x s. subs_do after (IsNow i) (IsNext (i + 1)) (after_does i li) End R rs x
        (s.0.long, s.1) (λ y u. done y (u.0.long, u.1)))

    each_flow_does : Leads n (each_flow b) (rounds b 0 n) Long (λ g. Long)
    each_flow_does k Q rs g long done =
        let W1 = λ (h : List ℕ).
        W n (put_all (starts b) (Loop 2 (Last body) k)) Q h (rounds b 0 n ++ rs) in
        put_does {w = n} {C = W1} refl 2 (omega arith) long (λ h c.
        starts_do (Loop 2 (Last body) k) Q (rounds b 0 n ++ rs) h c.0.long (λ x s.
        loop_does n b body (λ i y. Long y × Next i y) turn_does k Q rs x
        ((s.0.long, s.1), s.0.same 2 (omega arith) ∙ c.1) (λ y t. done y t.1.0))) refl

module _ (n : ℕ) (some : 0 < n) (small : n ≤ WIDTH_MAX) where
  step_does : (s : StepOf Block) → step_stands s ≡ true
      → Leads n (step_flow s) (step_rounds n s) Long (λ g. Long)
  step_does (Single b) st k Q rs g long done = (fixed_copy n b g st, done g long)
  step_does (Along b) st k Q rs g long done = each_flow_does n small b st k Q rs g long done
  step_does (Flowed f) st k Q rs g long done =
      flow_does n f st some small k Q rs g long (λ h s. done h s.long)

  steps_do : (ss : List (StepOf Block)) → list_all step_stands ss ≡ true → (g : List ℕ) → Long g
      → W n (steps_flow ss End) (λ h left. left ≡ []) g (all_rounds n ss)
  steps_do [] st g long = refl
  steps_do (s ∷ ss) st g long = step_does s (grind arith) (steps_flow ss End)
      (λ h left. left ≡ []) (all_rounds n ss) g long (steps_do ss (grind arith))

-- at each width, whatever the registers hold as it begins
pub front_runs : (may_have : ℕ → Spot → Type 0) (steps : List (StepOf Block))
    → CanCompile may_have steps → (n : ℕ) → 0 < n → n ≤ WIDTH_MAX → (g : List ℕ) → length g ≡ 8
    → IsRunOf (may_have n) n steps (front steps) g
front_runs may_have steps can n some small g long =
    let t = runs_from n (may_have n) (front steps) g (all_rounds n steps)
    (steps_do n some small steps can.stand g long) (can.rounds n some small)
    (steps_chained n steps [] some small can.find) in
    record { like = t.0; rounds = t.1; find = t.2; safe = t.3 }
