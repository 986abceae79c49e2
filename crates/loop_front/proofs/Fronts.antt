-- What the flow of a loop program keeps: its bodies, its registers and its loops are as they may,
-- it is as short as it must be, and it runs.
use Rattle.loop_front.proofs.Common.{◌≡◌, ℕ, suc, ◌+◌, ◌≤◌, Bool, true, false, List, [], ◌∷◌, ◌++◌}
use Rattle.loop_front.proofs.Common.{map, length, refl, ◌∙◌, arith, ap, nat_lt, not, filter, ◌&&◌}
use Rattle.loop_front.proofs.Common.{◌||◌, ◌==◌, AllByRecursion, list_all, and_from, lt-ltb, ne_eqb}
use Rattle.loop_front.proofs.Common.{list_all-append, Move, SetI, SetN, Sub, Place, Block, StepOf}
use Rattle.loop_front.proofs.Common.{Single, Along, Flowed, FlowOf, TurnsOf, all_flow, all_acts}
use Rattle.loop_front.proofs.Common.{End, Do, Put, If, Loop, Last, Turn, names, counts, nests}
use Rattle.loop_front.proofs.Common.{RoundOf, round_at, step_rounds, all_rounds, sub_value, Spot}
use Rattle.loop_front.proofs.Common.{IsOwn, nth_place, IsSmall, IsRound, HasValues, step_stands}
use Rattle.loop_front.proofs.Common.{may_stand, is_in_register, stays_in_registers, all_stand}
use Rattle.loop_front.proofs.Common.{CanCompile, length-map, Zero, Inner, InnerDown, Register}
use Rattle.std.proofs.Common.{◌*◌, length-append}
use Rattle.std.specs.Prelude.{cond, sum_by}
use Rattle.loop_ir.specs.declared.ir.Space.{Space}
use Rattle.loop_ir.specs.declared.ir.Space.TheVariants.{Source}
use Rattle.loop_ir.specs.Plain.{AllStep, AllParts}
use Rattle.loop_ir.specs.Flows.{AllFlow, flow_size}
use Rattle.loop_ir.specs.FlowTests.{target, is_low, keeps, cleared}
use Rattle.loop_ir.specs.Spots.{spot_in}
use Rattle.loop_ir.specs.Costs.{body_cost, step_cost, code_cost}
use Rattle.loop_ir.specs.Limits.{StepHasValues}
use Rattle.std.proofs.lemmas.List.Sums.{sum_by-cons}
use Rattle.loop_front.specs.Front.{used_subs, in_registers, start, before, after, each_sub}
use Rattle.loop_front.specs.Front.{put_all, starts, round_flow, each_flow, followed, clears}
use Rattle.loop_front.specs.Front.{step_flow, steps_flow, front}
use Rattle.loop_front.proofs.Bodies.{known_reads, known_writes, small_registers, used_few}
use Rattle.loop_front.proofs.Bodies.{values_registers, stays_registers}
use Rattle.loop_front.specs.FlowOfSteps.{IsFlowOf}
use Rattle.loop_front.proofs.Runs.{front_runs}

parts_all : {X : Type 0} (P : X → Type 0) (xs ys : List X) → AllByRecursion P (xs ++ ys)
    → AllByRecursion P xs × AllByRecursion P ys
parts_all P [] ys h = (tt, h)
parts_all P (x ∷ xs) ys h = let t = parts_all P xs ys h.1 in ((h.0, t.0), t.1)

own_of : (s : Space) (w v : ℕ) → IsOwn (spot_in 1 s w v).space → IsOwn s
own_of Source w v h = h
own_of s w v h = h

-- the move is one of low registers, and changes no counter where it stands in a loop
abbrev good : Bool → Move → Bool
good in_loop m = is_low m && (not in_loop || not (target m == 2))

abbrev AreGood : Bool → List Move → Type 0
AreGood in_loop ms = list_all (good in_loop) ms ≡ true

module _ (in_loop : Bool) where
  -- so are those of a register from 3 on
  abbrev Goes : (Sub → ℕ → List Move) → Type 0
  Goes f = (s : Sub) (r : ℕ) → nat_lt r 7 ≡ true → (r == 2) ≡ false → AreGood in_loop (f s r)

  start_good : Goes start
  start_good s r lt a = grind (arith, lt, a)

  before_good : Goes before
  before_good s r lt a = grind (arith, lt, a)

  after_good : Goes after
  after_good s r lt a = grind (arith, lt, a)

  each_good : (f : Sub → ℕ → List Move) → Goes f → (ss : List Sub) (r : ℕ) → 3 ≤ r
      → r + length ss ≤ 7 → AreGood in_loop (each_sub f ss r)
  each_good f h [] r le lt = refl
  each_good f h (s ∷ ss) r le lt =
      list_all-append (good in_loop) (f s r) (each_sub f ss (r + 1))
      ∙ and_from _ _ (h s r (lt-ltb r 7 (omega (arith, lt))) (ne_eqb r 2 (λ e. omega (arith, le, e))))
      (each_good f h ss (r + 1) (omega (arith, le)) (omega (arith, lt)))

cleared_good : (t : ℕ → Bool) (xs : List ℕ) → list_all (λ r. nat_lt r 7) xs ≡ true
    → AreGood false (map (λ r. SetI r 0) (filter t xs))
cleared_good t [] h = refl
cleared_good t (x ∷ xs) h =
    let g = cleared_good t xs (grind arith) in
    elim (t x) as (λ c. AreGood false
    (map (λ r. SetI r 0) (cond c (x ∷ filter t xs) (filter t xs)))) [
      | true ↦ grind arith
      | false ↦ g
    ]

-- places in registers that are named are in registers
module _ (named : ℕ → Bool) where
  sub_stays : (s : Sub) → is_in_register named s ≡ true → is_in_register (λ r. true) s ≡ true
  sub_stays s h = grind arith

  places_stay : (ps : List Place) → list_all (λ p. is_in_register named p.sub) ps ≡ true
      → list_all (λ p. is_in_register (λ r. true) p.sub) ps ≡ true
  places_stay [] h = refl
  places_stay (p ∷ ps) h = grind (arith, sub_stays p.sub, places_stay ps)

  mutual
    flow_stays : (f : FlowOf Block) → all_flow (stays_in_registers named) f ≡ true
        → all_flow (stays_in_registers (λ r. true)) f ≡ true
    flow_stays End h = refl
    flow_stays (Do b k) h = grind (arith, places_stay (b.reads ++ b.writes), flow_stays k)
    flow_stays (Put m k) h = flow_stays k h
    flow_stays (If r x y k) h = grind (arith, flow_stays x, flow_stays y, flow_stays k)
    flow_stays (Loop r ts k) h = grind (arith, acts_stay ts, flow_stays k)

    acts_stay : (ts : TurnsOf Block) → all_acts (stays_in_registers named) ts ≡ true
        → all_acts (stays_in_registers (λ r. true)) ts ≡ true
    acts_stay (Last x) h = flow_stays x h
    acts_stay (Turn x ts) h = grind (arith, flow_stays x, acts_stay ts)

module _ (may_have : ℕ → Spot → Type 0) where
  -- a flow may stand in a loop or not, with so many more inside one another in it
  abbrev test : Bool → ℕ → FlowOf Block → Bool
  test in_loop d f = counts f && (nests d f && (all_flow (stays_in_registers (λ r. true)) f
      && (not in_loop || keeps 2 f)))

  -- so it may, and what is said of its bodies
  abbrev IsFit : Bool → ℕ → FlowOf Block → Type 0
  IsFit in_loop d f = AllFlow IsSmall f × AllFlow (HasValues may_have) f × (test in_loop d f ≡ true)

  -- a body has a round, and so values
  abbrev HasRound : Block → Type 0
  HasRound b = IsRound (may_have 1) 1 (round_at b 0)

  values_of : (b : Block) → HasRound b → HasValues may_have b
  values_of b is = record {
    reads = λ k lt row. (1, sub_value 1 0 [] (nth_place b.reads k).sub, is.reads k lt row);
    writes = λ j lt row. (1, sub_value 1 0 [] (nth_place b.writes j).sub, is.writes j lt row);
    own = λ j lt. let q = nth_place b.writes j in
        own_of q.space q.which (sub_value 1 0 [] q.sub) (is.own j lt);
  }

  end_fit : (in_loop : Bool) (d : ℕ) → IsFit in_loop d End
  end_fit in_loop d = (tt, tt, grind arith)

  -- a body that is done once goes by no index
  once_stays : (b : Block) → all_stand false b ≡ true → stays_in_registers (λ r. true) b ≡ true
  once_stays b h = places (b.reads ++ b.writes) h
    where
      places : (ps : List Place) → list_all (λ p. may_stand false p.sub) ps ≡ true
          → list_all (λ p. is_in_register (λ r. true) p.sub) ps ≡ true
      places [] h = refl
      places (p ∷ ps) h = grind (arith, places ps)

  module _ (in_loop : Bool) (d : ℕ) where
    abbrev Fits : FlowOf Block → Type 0
    Fits f = IsFit in_loop d f

    all_fit : (ms : List Move) (k : FlowOf Block) → AreGood in_loop ms → Fits k → Fits (put_all ms k)
    all_fit [] k g h = h
    all_fit (m ∷ ms) k g h = let t = all_fit ms k (grind arith) h in (t.0, t.1, grind (arith, t.2))

    subs_fit : (f : Sub → ℕ → List Move) → Goes in_loop f → (b : Block) (k : FlowOf Block) → Fits k
        → Fits (put_all (each_sub f (used_subs b) 3) k)
    subs_fit f g b k h = all_fit (each_sub f (used_subs b) 3) k
        (each_good in_loop f g (used_subs b) 3 (omega arith) (omega (arith, used_few b))) h

  each_fit : (b : Block) → IsSmall b → all_stand true b ≡ true → HasRound b → (k : FlowOf Block)
      → IsFit false 2 k → IsFit false 2 (each_flow b k)
  each_fit b s st r k h =
      let more = put_all (each_sub after (used_subs b) 3) End in
      let end = subs_fit true 1 after (after_good true) b End (end_fit true 1) in
      let small = small_registers b s (known_reads b st) (known_writes b st) in
      let values = values_registers b may_have (values_of b r) in
      let stays = stays_registers b in
      let x = subs_fit true 1 before (before_good true) b (Do (in_registers b) more)
      ((small, end.0), (values, end.1), grind (arith, stays, end.2)) in
      all_fit false 2 (SetN 2 ∷ []) (put_all (starts b) (Loop 2 (Last (round_flow b more)) k)) refl
      (subs_fit false 2 start (start_good false) b (Loop 2 (Last (round_flow b more)) k)
      ((x.0, h.0), (x.1, h.1), loops (round_flow b more) x.2 h.2))
    where
      loops : (x : FlowOf Block) → test true 1 x ≡ true → test false 2 k ≡ true
          → test false 2 (Loop 2 (Last x) k) ≡ true
      loops x h g = grind arith

  abbrev RoundsAt1 : List (RoundOf Block) → Type 0
  RoundsAt1 rs = AllByRecursion (IsRound (may_have 1) 1) rs

  abbrev FitsAlone : FlowOf Block → Type 0
  FitsAlone f = IsFit false 2 f

  -- a flow after another
  followed_fit : (f k : FlowOf Block) → FitsAlone f → FitsAlone k → FitsAlone (followed f k)
  followed_fit f k h g =
      (all IsSmall f h.0 g.0, all (HasValues may_have) f h.1 g.1, passes f h.2)
    where
      all : (P : Block → Type 0) (f : FlowOf Block) → AllFlow P f → AllFlow P k
          → AllFlow P (followed f k)
      all P End h g = g
      all P (Do b x) h g = (h.0, all P x h.1 g)
      all P (Put m x) h g = all P x h g
      all P (If r x y z) h g = (h.0, (h.1.0, all P z h.1.1 g))
      all P (Loop r ts x) h g = (h.0, all P x h.1 g)

      passes : (f : FlowOf Block) → test false 2 f ≡ true
          → test false 2 (followed f k) ≡ true
      passes End h = g.2
      passes (Do b x) h = grind (arith, passes x)
      passes (Put m x) h = grind (arith, passes x)
      passes (If r x y z) h = grind (arith, passes z)
      passes (Loop r ts x) h = grind (arith, passes x)

  step_fit : (s : StepOf Block) → AllStep IsSmall s → step_stands s ≡ true
      → StepHasValues may_have s → RoundsAt1 (step_rounds 1 s) → (k : FlowOf Block)
      → FitsAlone k → FitsAlone (step_flow s k)
  step_fit (Single b) s h v r k g =
      let stays = once_stays b h in
      ((s, g.0), (values_of b r.0, g.1), grind (arith, stays, g.2))
  step_fit (Along b) s h v r k g = each_fit b s h r.0 k g
  step_fit (Flowed f) s h v r k g =
      let t = flow_stays (λ r. names r f) f (grind arith) in
      all_fit false 2 (clears f) (followed f k)
      (cleared_good (λ r. names r f) (0 ∷ 1 ∷ 2 ∷ 3 ∷ 4 ∷ 5 ∷ 6 ∷ []) refl)
      (followed_fit f k (s, v, grind (arith, h, t)) g)

  steps_fit : (ss : List (StepOf Block)) → AllParts IsSmall ss
      → list_all step_stands ss ≡ true → AllByRecursion (StepHasValues may_have) ss
      → RoundsAt1 (all_rounds 1 ss) → FitsAlone (steps_flow ss End)
  steps_fit [] s h v r = end_fit false 2
  steps_fit (x ∷ ss) s h v r =
      let p = parts_all (IsRound (may_have 1) 1) (step_rounds 1 x) (all_rounds 1 ss) r in
      step_fit x s.0 (grind arith) v.0 p.0 (steps_flow ss End)
      (steps_fit ss s.1 (grind arith) v.1 p.1)

abbrev size : FlowOf Block → ℕ
size f = flow_size body_cost f

put_size : (ms : List Move) (k : FlowOf Block) → size (put_all ms k) ≡ length ms + size k
put_size [] k = omega arith
put_size (m ∷ ms) k = let h = put_size ms k in omega (arith, h)

-- a subscript takes at most two moves
two_moves : (s : Sub) (r : ℕ) → length (start s r) + length (before s r) + length (after s r) ≤ 2
two_moves Zero r = omega arith
two_moves Inner r = omega arith
two_moves InnerDown r = omega arith
two_moves (Register q) r = omega arith

all_moves : (ss : List Sub) (r : ℕ) → length (each_sub start ss r) + length (each_sub before ss r)
    + length (each_sub after ss r) ≤ 2 * length ss
all_moves [] r = omega arith
all_moves (s ∷ ss) r =
    let a = length-append (start s r) (each_sub start ss (r + 1)) in
    let b = length-append (before s r) (each_sub before ss (r + 1)) in
    let c = length-append (after s r) (each_sub after ss (r + 1)) in
    omega (arith, two_moves s r, all_moves ss (r + 1), a, b, c)

each_size : (b : Block) (k : FlowOf Block) → size (each_flow b k) ≤ body_cost b + 15 + size k
each_size b k =
    let more = put_all (each_sub after (used_subs b) 3) End in
    let turns = Loop 2 (Last (round_flow b more)) k in
    let c = put_size (starts b) turns in
    let d = put_size (each_sub before (used_subs b) 3) (Do (in_registers b) more) in
    let e = put_size (each_sub after (used_subs b) 3) End in
    omega (arith, c, d, e, all_moves (used_subs b) 3, used_few b)

followed_size : (f k : FlowOf Block) → size (followed f k) ≡ size f + size k
followed_size End k = omega arith
followed_size (Do b x) k = let h = followed_size x k in omega (arith, h)
followed_size (Put m x) k = let h = followed_size x k in omega (arith, h)
followed_size (If r x y z) k = let h = followed_size z k in omega (arith, h)
followed_size (Loop r ts x) k = let h = followed_size x k in omega (arith, h)

step_size : (s : StepOf Block) (k : FlowOf Block) → size (step_flow s k) ≤ step_cost s + size k
step_size (Single b) k = omega arith
step_size (Along b) k = each_size b k
step_size (Flowed f) k =
    let h = put_size (clears f) (followed f k) in
    omega (arith, h, followed_size f k, length-map (cleared f) (λ r. SetI r 0))

-- no more than the loop program may take
steps_size : (ss : List (StepOf Block)) → size (steps_flow ss End) ≤ code_cost ss
steps_size [] = omega arith
steps_size (x ∷ ss) = let h = step_size x (steps_flow ss End) in
    omega (arith, h, steps_size ss, sum_by-cons step_cost x ss)

pub front_is : (may_have : ℕ → Spot → Type 0) (steps : List (StepOf Block))
    → CanCompile may_have steps → IsFlowOf may_have steps (front steps)
front_is may_have steps can =
    let fit = steps_fit may_have steps can.small can.stand can.values
    (can.rounds 1 (omega arith) (omega arith)) in record {
      small = fit.0;
      values = fit.1;
      counts = grind (arith, fit.2);
      nests = grind (arith, fit.2);
      stays = grind (arith, fit.2);
      size = steps_size steps;
      runs = front_runs may_have steps can;
    }
