-- A flow after moves that clear the registers which its forms name: it does the rounds that it does
-- from zeros.
use Rattle.loop_front.proofs.Common.{◌≡◌, ℕ, zero, suc, ◌<◌, ◌≤◌, Bool, true, false, cond, List, []}
use Rattle.loop_front.proofs.Common.{◌∷◌, ◌++◌, map, length, refl, sym, ap, ◌∙◌, subst, arith, inl}
use Rattle.loop_front.proofs.Common.{inr, length-set, get_or-set_same, get_or-set_other}
use Rattle.loop_front.proofs.Common.{slice_index, slice_set, ◌&&◌, ◌||◌, ◌==◌, nat_lt, nat_le}
use Rattle.loop_front.proofs.Common.{filter, not, list_all, and_parts, eq-eqb, ltb-true, cases_Bool}
use Rattle.loop_front.proofs.Common.{list_all-append, WIDTH_MAX, SetI, Sub, Zero, Register, Place}
use Rattle.loop_front.proofs.Common.{Block, FlowOf, TurnsOf, EventOf, run, all_flow, all_acts, End}
use Rattle.loop_front.proofs.Common.{Do, Put, If, Loop, Last, Turn, Done, Moved, Counted, names}
use Rattle.loop_front.proofs.Common.{counts, is_safe, nests, is_event_safe, is_in_register}
use Rattle.loop_front.proofs.Common.{stays_in_registers, RoundOf, rounds_in, flow_rounds, sub_value}
use Rattle.std.proofs.lemmas.Bool.{eqb-true, cases_eq}
use Rattle.std.proofs.lemmas.Grind.{get_or-set_at}
use Rattle.loop_ir.specs.Flows.{moved, cycle, acts, zeros, RunOf, join}
use Rattle.loop_ir.specs.FlowTests.{any_names, all_count, runs_safely}
use Rattle.loop_ir.specs.Limits.{flow_stands}
use Rattle.loop_laws.proofs.FlowLogic.{way, turning, wps}
use Rattle.loop_laws.proofs.Registers.{Alike, set_both, move_like}
use Rattle.loop_front.specs.Like.{AreSameRows}
use Rattle.loop_front.specs.Front.{put_all, followed, clears}
use Rattle.loop_front.proofs.Rounds.{round_in, IsCopy, Fits, later, W, Claim, Leads, IsKept}
use Rattle.loop_front.proofs.Rounds.{at_width, one_width}

rounds_both : (es fs : List (EventOf Block)) (rs : List (RoundOf Block))
    → rounds_in (es ++ fs) ++ rs ≡ rounds_in es ++ (rounds_in fs ++ rs)
rounds_both [] fs rs = refl
rounds_both (Done b g ∷ es) fs rs = ap (λ l. round_in b g ∷ l) (rounds_both es fs rs)
rounds_both (Moved m g ∷ es) fs rs = rounds_both es fs rs
rounds_both (Counted r g ∷ es) fs rs = rounds_both es fs rs

module _ (n : ℕ) where
  -- so many turns of a loop, and what holds before them
  abbrev turns : ℕ → TurnsOf Block → TurnsOf Block → ℕ → Claim n → Claim n
  turns r all ts m Q = turning Block (List (RoundOf Block)) n (Fits n) (later n) r
      (wps Block (List (RoundOf Block)) n (Fits n) (later n) all)
      (wps Block (List (RoundOf Block)) n (Fits n) (later n) ts) m Q

  -- a choice, and what holds before it
  abbrev choose : FlowOf Block → FlowOf Block → Bool → Claim n → Claim n
  choose x y c Q g rs = way Block (List (RoundOf Block)) n (Fits n) (later n) c
      (W n y Q g rs) (W n x Q g rs)

  followed_is : (f k : FlowOf Block) (Q : Claim n) → W n (followed f k) Q ≡ W n f (W n k Q)
  followed_is End k Q = refl
  followed_is (Do b x) k Q =
      ap (λ (C : Claim n). λ g rs. Fits n (Done b g) rs × C g (later n b g rs)) (followed_is x k Q)
  followed_is (Put m x) k Q =
      ap (λ (C : Claim n). λ g rs. Fits n (Moved m g) rs × C (moved n m g) rs) (followed_is x k Q)
  followed_is (If r x y z) k Q = ap (λ (C : Claim n). λ g rs.
      choose x y (slice_index g r == 0) C g rs) (followed_is z k Q)
  followed_is (Loop r ts x) k Q = ap (λ (C : Claim n). λ g rs.
      Fits n (Counted r g) rs × turns r ts ts (slice_index g r) C g rs) (followed_is x k Q)

-- the second holds 0 where the first does, and in each of these that passes the test
abbrev IsCleared : (ℕ → Bool) → List ℕ → List ℕ → List ℕ → Type 0
IsCleared t xs g h = (length h ≡ 8) × ((q : ℕ) → slice_index g q ≡ 0 → slice_index h q ≡ 0)
    × (list_all (λ x. not (t x) || slice_index h x == 0) xs ≡ true)

module _ (t : ℕ → Bool) (n : ℕ) where
  value_like : (z g : List ℕ) → Alike t z g → (s : Sub) → is_in_register t s ≡ true
      → sub_value n 0 g s ≡ sub_value n 0 z s
  value_like z g a Zero h = refl
  value_like z g a (Register r) h = a.same r (grind (arith, h)) (grind (arith, h))
  value_like z g a s h = cc

  rows_like : (z g : List ℕ) → Alike t z g → (b : Block) (ps : List Place)
      → list_all (λ p. is_in_register t p.sub) ps ≡ true
      → AreSameRows n (round_in b z) (round_in b g) ps ps
  rows_like z g a b [] h = tt
  rows_like z g a b (p ∷ ps) h =
      let e = value_like z g a p.sub (grind arith) in
      (record { space = refl; which = refl; index = e }, rows_like z g a b ps (grind arith))

  round_like : (z g : List ℕ) → Alike t z g → (b : Block) → stays_in_registers t b ≡ true
      → IsCopy n (round_in b z) (round_in b g)
  round_like z g a b h =
      let test = λ (p : Place). is_in_register t p.sub in
      let k = and_parts (list_all test b.reads) (list_all test b.writes)
      (sym (list_all-append test b.reads b.writes) ∙ h) in
      record {
        like = record {
          graph = refl;
          outs = refl;
          found = refl;
          reads = rows_like z g a b b.reads k.0;
          writes = rows_like z g a b b.writes k.1;
        };
        same = λ j k lj lk e. e;
      }

  abbrev safe : List (EventOf Block) → Bool
  safe es = list_all (is_event_safe n) es

  -- what does the rounds of this run, from registers that are alike
  abbrev Follows : (Claim n → Claim n) → RunOf Block → List ℕ → Type 1
  Follows V a g = safe a.events ≡ true → (C : Claim n) (rs : List (RoundOf Block))
      → ((h : List ℕ) → Alike t a.regs h → C h rs) → V C g (rounds_in a.events ++ rs)

  then_like : (V U : Claim n → Claim n) (a : RunOf Block) (c : List ℕ → RunOf Block) (g : List ℕ)
      → Follows V a g → ((h : List ℕ) → Alike t a.regs h → Follows U (c a.regs) h)
      → Follows (λ C. V (U C)) (join a c) g
  then_like V U a c g first next ok C rs done =
      let fs = (c a.regs).events in
      let p = and_parts (safe a.events) (safe fs)
      (sym (list_all-append (is_event_safe n) a.events fs) ∙ ok) in
      subst (V (U C) g) (sym (rounds_both a.events fs rs))
      (first p.0 (U C) (rounds_in fs ++ rs) (λ h ah. next h ah p.1 C rs done))

  abbrev Goal : FlowOf Block → Type 1
  Goal f = (z g : List ℕ) → Alike t z g → Follows (W n f) (run n f z) g

  abbrev AllGoal : TurnsOf Block → Type 1
  AllGoal (Last x) = Goal x
  AllGoal (Turn x ts) = Goal x × AllGoal ts

  first_turn : (r m : ℕ) (all ts : TurnsOf Block) (x : FlowOf Block) → Goal x
      → ((z g : List ℕ) → Alike t z g
      → Follows (turns n r all ts m) (cycle r (acts n all) (acts n ts) m z) g) → (z g : List ℕ)
      → Alike t z g → Follows (λ C h. W n x (turns n r all ts m C) (slice_set h r m))
      (join (run n x (slice_set z r m)) (cycle r (acts n all) (acts n ts) m)) g
  first_turn r m all ts x gx more z g a =
      then_like (W n x) (turns n r all ts m) (run n x (slice_set z r m))
      (cycle r (acts n all) (acts n ts) m) (slice_set g r m)
      (gx (slice_set z r m) (slice_set g r m) (set_both t z g r m m refl a)) (λ h. more _ h)

  cycle_like : (r : ℕ) (all : TurnsOf Block) → AllGoal all → (m : ℕ) (ts : TurnsOf Block)
      → AllGoal ts → (z g : List ℕ) → Alike t z g
      → Follows (turns n r all ts m) (cycle r (acts n all) (acts n ts) m z) g
  cycle_like r all ga zero ts gs = λ z g a ok C rs done. done g a
  cycle_like r all ga (suc m) (Last x) gx =
      first_turn r m all all x gx (cycle_like r all ga m all ga)
  cycle_like r all ga (suc m) (Turn x (Last y)) gs =
      first_turn r m all (Last y) x gs.0 (cycle_like r all ga m (Last y) gs.1)
  cycle_like r all ga (suc m) (Turn x (Turn y ts)) gs =
      first_turn r m all (Turn y ts) x gs.0 (cycle_like r all ga m (Turn y ts) gs.1)

  choice : (x y : FlowOf Block) → Goal x → Goal y → (z g : List ℕ) → Alike t z g → (c : Bool)
      → Follows (choose n x y c) (cond c (run n y z) (run n x z)) g
  choice x y gx gy z g a true = gy z g a
  choice x y gx gy z g a false = gx z g a

  -- all registers of the forms are below 7 and pass the test, as those of the places do
  abbrev Named : FlowOf Block → Type 0
  Named f = (q : ℕ) → (counts f && (all_flow (stays_in_registers t) f && (not (names q f) || t q)))
      ≡ true

  abbrev AllNamed : TurnsOf Block → Type 0
  AllNamed ts = (q : ℕ)
      → (all_count ts && (all_acts (stays_in_registers t) ts && (not (any_names q ts) || t q)))
      ≡ true

  mutual
    flow_like : (f : FlowOf Block) → Named f → Goal f
    flow_like End p z g a ok C rs done = done g a
    flow_like (Do b x) p z g a ok C rs done =
        let more = flow_like x (λ q. grind (arith, p q)) z g a ok C rs done in
        (round_like z g a b (grind (arith, p 0)), more)
    flow_like (Put m x) p z g a ok C rs done =
        let s = and_parts (is_safe m z) (safe (run n x (moved n m z)).events) ok in
        let l = move_like t n m z g (grind (arith, p 0)) (λ r e. grind (arith, p r)) a in
        let more = flow_like x (λ q. grind (arith, p q)) (moved n m z) (moved n m g) l.1 s.1 C rs
        done in
        (l.0 ∙ s.0, more)
    flow_like (If r x y u) p z g a ok C rs done =
        let same = a.same r (grind (arith, p 0)) (grind (arith, p r, eq-eqb r r)) in
        let gx = flow_like x (λ q. grind (arith, p q)) in
        let gy = flow_like y (λ q. grind (arith, p q)) in
        let gu = flow_like u (λ q. grind (arith, p q)) in
        let c = slice_index z r == 0 in
        let b = cond c (run n y z) (run n x z) in
        subst (λ c. choose n x y c (W n u C) g (rounds_in (join b (run n u)).events ++ rs))
        (sym (ap (λ v. v == 0) same)) (then_like (choose n x y c) (W n u) b (run n u) g
        (choice x y gx gy z g a c) (gu b.regs) ok C rs done)
    flow_like (Loop r ts u) p z g a ok C rs done =
        let same = a.same r (grind (arith, p 0)) (grind (arith, p r, eq-eqb r r)) in
        let gt = turns_like ts (λ q. grind (arith, p q)) in
        let gu = flow_like u (λ q. grind (arith, p q)) in
        let m = slice_index z r in
        let b = cycle r (acts n ts) (acts n ts) m z in
        let s = and_parts (nat_le m n) (safe (join b (run n u)).events) ok in
        let all = then_like (turns n r ts ts m) (W n u) b (run n u) g
        (cycle_like r ts gt m ts gt z g a) (gu b.regs) s.1 C rs done in (
          ap (λ v. nat_le v n) same ∙ s.0,
          subst (λ m. turns n r ts ts m (W n u C) g
              (rounds_in (join b (run n u)).events ++ rs)) (sym same) all,
        )

    turns_like : (ts : TurnsOf Block) → AllNamed ts → AllGoal ts
    turns_like (Last x) p = flow_like x p
    turns_like (Turn x ts) p =
        (flow_like x (λ q. grind (arith, p q)), turns_like ts (λ q. grind (arith, p q)))

module _ (n : ℕ) where
  -- the registers that pass the test get 0
  clear_does : (t : ℕ → Bool) (xs : List ℕ) → list_all (λ x. nat_lt x 8) xs ≡ true
      → Leads n (put_all (map (λ r. SetI r 0) (filter t xs))) [] (λ g. length g ≡ 8)
      (λ g h. IsCleared t xs g h)
  clear_does t [] low k Q rs g long done = done g (long, λ q e. e, refl)
  clear_does t (x ∷ xs) low k Q rs g long done =
      let x8 : x < length g = omega (arith, ltb-true x 8 (grind arith), long) in
      let more = clear_does t xs (grind arith) k Q rs in
      elim (cases_Bool (t x)) [
        | inl e ↦
            let next = more (slice_set g x 0) (length-set g x 0 ∙ long) (λ h c.
            let z = eq-eqb (slice_index h x) 0 (c.1 x (get_or-set_same g x 0 0 x8)) in
            done h (c.0, λ q z. c.1 q (still q x8 z), grind (arith, c.2, z))) in
            rw e (refl, next)
        | inr e ↦ rw e (more g long (λ h c. done h (c.0, c.1, grind (arith, c.2))))
      ]
    where
      still : (q : ℕ) → x < length g → slice_index g q ≡ 0 → slice_index (slice_set g x 0) q ≡ 0
      still q lt z = elim (cases_eq q x) [
        | inl e ↦ get_or-set_at g x q 0 0 e lt
        | inr ne ↦ get_or-set_other g x q 0 0 ne ∙ z
      ]

  pub flow_does : (f : FlowOf Block) → flow_stands f ≡ true → 0 < n → n ≤ WIDTH_MAX
      → Leads n (λ k. put_all (clears f) (followed f k)) (flow_rounds n f) (λ g. length g ≡ 8)
      (IsKept 0)
  flow_does f stand some small k Q rs g long done =
      let t = λ (r : ℕ). names r f in
      let T = stays_in_registers t in
      let p = and_parts (counts f) (nests 2 f && (all_flow T f && runs_safely f)) stand in
      let q = and_parts (nests 2 f) (all_flow T f && runs_safely f) p.1 in
      let s = and_parts (all_flow T f) (runs_safely f) q.1 in
      clear_does t (0 ∷ 1 ∷ 2 ∷ 3 ∷ 4 ∷ 5 ∷ 6 ∷ []) refl (followed f k) Q (flow_rounds n f ++ rs) g
      long (λ h c. subst (λ (D : Claim n). D h (flow_rounds n f ++ rs)) (sym (followed_is n f k Q))
      (flow_like t n f (λ q. grind (arith, p.0, s.0)) zeros h (record {
        flow = refl;
        code = c.0;
        same = λ q l e.
            let v = at_width (λ x. not (t x) || slice_index h x == slice_index zeros x) q 0 7
            (omega arith) (omega arith) c.2 in
            eqb-true (slice_index h q) (slice_index zeros q) (grind (arith, v, e));
      }) (one_width (λ n. list_all (is_event_safe n) (run n f zeros).events) n some small s.1)
      (W n k Q) rs (λ x a. done x (record { long = a.code; same = λ q l. absurd (omega arith) }))))
