-- The rounds of flows: what holds of every body holds in each, and those over other things.
use Rattle.loop_laws.proofs.Common.{◌≡◌, ℕ, zero, suc, Bool, true, false, cond, List, [], ◌∷◌, ◌++◌}
use Rattle.loop_laws.proofs.Common.{map, refl, sym, ap, ◌∙◌, slice_set, slice_index, ◌==◌}
use Rattle.loop_laws.proofs.Common.{map-append, FlowOf, TurnsOf, EventOf, RunOf, moved, cycle, run}
use Rattle.loop_laws.proofs.Common.{acts, End, Do, Put, If, Loop, Last, Turn, Done, Moved, Counted}
use Rattle.loop_laws.proofs.Common.{AllFlow, AllActs, flow_map, zeros, RoundOf, flow_rounds}
use Rattle.loop_laws.proofs.Common.{AllByRecursion}
use Rattle.loop_ir.specs.Flows.{join, acts_map}
use Rattle.loop_ir.specs.Loops.{rounds_in}

module _ (A B : Type 0) (h : A → B) (n : ℕ) where
  -- the same event, of another body
  abbrev pub event_map : EventOf A → EventOf B
  event_map (Done b g) = Done (h b) g
  event_map (Moved m g) = Moved m g
  event_map (Counted r g) = Counted r g

  -- the same events, and the same registers
  pub record Mapped (a : RunOf B) (b : RunOf A) : Type 0 where
    pub events : a.events ≡ map event_map b.events
    pub regs : a.regs ≡ b.regs

  joined : (a : RunOf B) (b : RunOf A) (f : List ℕ → RunOf B) (e : List ℕ → RunOf A) → Mapped a b
      → ((g : List ℕ) → Mapped (f g) (e g)) → Mapped (join a f) (join b e)
  joined a b f e p q = record {
    events = ap (λ l. l ++ (f a.regs).events) p.events
        ∙ ap (λ l. map event_map b.events ++ l) ((q a.regs).events
        ∙ ap (λ g. map event_map (e g).events) p.regs)
        ∙ sym (map-append event_map b.events (e b.regs).events);
    regs = (q a.regs).regs ∙ ap (λ g. (e g).regs) p.regs;
  }

  abbrev Goal : FlowOf A → Type 0
  Goal f = (g : List ℕ) → Mapped (run n (flow_map h f) g) (run n f g)

  abbrev AllGoal : TurnsOf A → Type 0
  AllGoal (Last x) = Goal x
  AllGoal (Turn x ts) = Goal x × AllGoal ts

  cycle_map : (r : ℕ) (all : TurnsOf A) → AllGoal all → (m : ℕ) (ts : TurnsOf A) → AllGoal ts
      → (g : List ℕ) → Mapped (cycle r (acts n (acts_map h all)) (acts n (acts_map h ts)) m g)
      (cycle r (acts n all) (acts n ts) m g)
  cycle_map r all ka zero (Last x) k g = record { events = refl; regs = refl }
  cycle_map r all ka zero (Turn x ts) k g = record { events = refl; regs = refl }
  cycle_map r all ka (suc m) (Last x) k g =
      joined (run n (flow_map h x) (slice_set g r m)) (run n x (slice_set g r m))
      (cycle r (acts n (acts_map h all)) (acts n (acts_map h all)) m)
      (cycle r (acts n all) (acts n all) m) (k (slice_set g r m))
      (λ q. cycle_map r all ka m all ka q)
  cycle_map r all ka (suc m) (Turn x (Last y)) k g =
      joined (run n (flow_map h x) (slice_set g r m)) (run n x (slice_set g r m))
      (cycle r (acts n (acts_map h all)) (acts n (acts_map h (Last y))) m)
      (cycle r (acts n all) (acts n (Last y)) m) (k.0 (slice_set g r m))
      (λ q. cycle_map r all ka m (Last y) k.1 q)
  cycle_map r all ka (suc m) (Turn x (Turn y ts)) k g =
      joined (run n (flow_map h x) (slice_set g r m)) (run n x (slice_set g r m))
      (cycle r (acts n (acts_map h all)) (acts n (acts_map h (Turn y ts))) m)
      (cycle r (acts n all) (acts n (Turn y ts)) m) (k.0 (slice_set g r m))
      (λ q. cycle_map r all ka m (Turn y ts) k.1 q)

  choice : (x y : FlowOf A) (b : Bool) → Goal x → Goal y → (g : List ℕ)
      → Mapped (cond b (run n (flow_map h y) g) (run n (flow_map h x) g))
      (cond b (run n y g) (run n x g))
  choice x y true kx ky g = ky g
  choice x y false kx ky g = kx g

  mutual
    pub run_map : (f : FlowOf A) → Goal f
    run_map End g = record { events = refl; regs = refl }
    run_map (Do b k) g = let q = run_map k g in
        record { events = ap (λ l. Done (h b) g ∷ l) q.events; regs = q.regs }
    run_map (Put m k) g = let q = run_map k (moved n m g) in
        record { events = ap (λ l. Moved m g ∷ l) q.events; regs = q.regs }
    run_map (If r x y k) g =
        joined (cond (slice_index g r == 0) (run n (flow_map h y) g) (run n (flow_map h x) g))
        (cond (slice_index g r == 0) (run n y g) (run n x g)) (run n (flow_map h k)) (run n k)
        (choice x y (slice_index g r == 0) (run_map x) (run_map y) g) (run_map k)
    run_map (Loop r ts k) g =
        let q = joined (cycle r (acts n (acts_map h ts)) (acts n (acts_map h ts))
        (slice_index g r) g) (cycle r (acts n ts) (acts n ts) (slice_index g r) g)
        (run n (flow_map h k)) (run n k)
        (cycle_map r ts (all_map ts) (slice_index g r) ts (all_map ts) g) (run_map k) in
        record { events = ap (λ l. Counted r g ∷ l) q.events; regs = q.regs }

    all_map : (ts : TurnsOf A) → AllGoal ts
    all_map (Last x) = run_map x
    all_map (Turn x ts) = (run_map x, all_map ts)

-- the same round, of another body
abbrev pub round_map : {A B : Type 0} → (A → B) → RoundOf A → RoundOf B
round_map h r = record { part = h r.part; i = r.i; regs = r.regs }

module _ (A B : Type 0) (h : A → B) (n : ℕ) where
  rounds_map : (es : List (EventOf A)) → rounds_in (map (event_map A B h n) es)
      ≡ map (round_map h) (rounds_in es)
  rounds_map [] = refl
  rounds_map (Done b g ∷ es) =
      ap (λ l. record { part = h b; i = 0; regs = g } ∷ l) (rounds_map es)
  rounds_map (Moved m g ∷ es) = rounds_map es
  rounds_map (Counted r g ∷ es) = rounds_map es

  pub flow_rounds_map : (f : FlowOf A)
      → flow_rounds n (flow_map h f) ≡ map (round_map h) (flow_rounds n f)
  flow_rounds_map f = ap rounds_in (run_map A B h n f zeros).events
      ∙ rounds_map (run n f zeros).events

-- what holds of every body of a flow holds of every round
module _ (A : Type 0) (P : A → Type 0) (n : ℕ) where
  abbrev InRounds : RunOf A → Type 0
  InRounds a = AllByRecursion (λ (r : RoundOf A). P r.part) (rounds_in a.events)

  both_in : (es fs : List (EventOf A))
      → AllByRecursion (λ (r : RoundOf A). P r.part) (rounds_in es)
      → AllByRecursion (λ (r : RoundOf A). P r.part) (rounds_in fs)
      → AllByRecursion (λ (r : RoundOf A). P r.part) (rounds_in (es ++ fs))
  both_in [] fs p q = q
  both_in (Done b g ∷ es) fs p q = (p.0, both_in es fs p.1 q)
  both_in (Moved m g ∷ es) fs p q = both_in es fs p q
  both_in (Counted r g ∷ es) fs p q = both_in es fs p q

  abbrev Holds : FlowOf A → Type 0
  Holds f = (g : List ℕ) → InRounds (run n f g)

  abbrev AllHold : TurnsOf A → Type 0
  AllHold (Last x) = Holds x
  AllHold (Turn x ts) = Holds x × AllHold ts

  cycle_all : (r : ℕ) (all : TurnsOf A) → AllHold all → (m : ℕ) (ts : TurnsOf A) → AllHold ts
      → (g : List ℕ) → InRounds (cycle r (acts n all) (acts n ts) m g)
  cycle_all r all ka zero (Last x) k g = tt
  cycle_all r all ka zero (Turn x ts) k g = tt
  cycle_all r all ka (suc m) (Last x) k g =
      let a = run n x (slice_set g r m) in
      both_in a.events (cycle r (acts n all) (acts n all) m a.regs).events (k (slice_set g r m))
      (cycle_all r all ka m all ka a.regs)
  cycle_all r all ka (suc m) (Turn x (Last y)) k g =
      let a = run n x (slice_set g r m) in
      both_in a.events (cycle r (acts n all) (acts n (Last y)) m a.regs).events
      (k.0 (slice_set g r m)) (cycle_all r all ka m (Last y) k.1 a.regs)
  cycle_all r all ka (suc m) (Turn x (Turn y ts)) k g =
      let a = run n x (slice_set g r m) in
      both_in a.events (cycle r (acts n all) (acts n (Turn y ts)) m a.regs).events
      (k.0 (slice_set g r m)) (cycle_all r all ka m (Turn y ts) k.1 a.regs)

  choose : (x y : FlowOf A) (b : Bool) → Holds x → Holds y → (g : List ℕ)
      → InRounds (cond b (run n y g) (run n x g))
  choose x y true kx ky g = ky g
  choose x y false kx ky g = kx g

  mutual
    pub run_all : (f : FlowOf A) → AllFlow P f → Holds f
    run_all End h g = tt
    run_all (Do b k) h g = (h.0, run_all k h.1 g)
    run_all (Put m k) h g = run_all k h (moved n m g)
    run_all (If r x y k) h g =
        let a = cond (slice_index g r == 0) (run n y g) (run n x g) in
        both_in a.events (run n k a.regs).events
        (choose x y (slice_index g r == 0) (run_all x h.0) (run_all y h.1.0) g)
        (run_all k h.1.1 a.regs)
    run_all (Loop r ts k) h g =
        let a = cycle r (acts n ts) (acts n ts) (slice_index g r) g in
        both_in a.events (run n k a.regs).events
        (cycle_all r ts (all_runs ts h.0) (slice_index g r) ts (all_runs ts h.0) g)
        (run_all k h.1 a.regs)

    all_runs : (ts : TurnsOf A) → AllActs P ts → AllHold ts
    all_runs (Last x) h = run_all x h
    all_runs (Turn x ts) h = (run_all x h.0, all_runs ts h.1)
