-- What an operation's flow does, by states that stand for the rows: its rounds keep the rules and
-- find their states, it takes so many commands, and leaves rows that are like its last state.
use Rattle.word_flow.proofs.Common.{AllByRecursion, range_with_len, after_rounds, slice_index, zero}
use Rattle.word_flow.proofs.Common.{sum_by-cons, flow_rounds, after_round, WIDTH_MAX, rounds_in, []}
use Rattle.word_flow.proofs.Common.{event_map, list_all, and_from, flow_map, acts_map, TurnsOf, ◌≡◌}
use Rattle.word_flow.proofs.Common.{EventOf, AllFlow, AllActs, Counted, RoundOf, left_by, chained}
use Rattle.word_flow.proofs.Common.{IsRound, run_map, safe_is, AllFine, sum_by, le-leb, FlowOf, suc}
use Rattle.word_flow.proofs.Common.{subst, arith, Block, zeros, Moved, Spots, finds, sound, after}
use Rattle.word_flow.proofs.Common.{Bool, true, List, refl, Loop, Last, Turn, Done, Spot, Fine, ◌+◌}
use Rattle.word_flow.proofs.Common.{◌<◌, ◌≤◌, ◌∷◌, map, sym, run, End, Put, Do, If, wp, ℕ}
use Rattle.loop_ir.specs.FlowTests.{is_event_safe, is_safe, widths}

module _ (A S : Type 0) (block : A → Block) (n : ℕ) (may_have : Spot → Type 0)
    (InRange : A → List ℕ → S → Type 0) (does : A → List ℕ → S → S) (Like : S → Spots → Type 0)
    (weight : Block → ℕ) (cost : S → ℕ) (alive : S → List ℕ) where
  abbrev weigh : List (RoundOf Block) → ℕ
  weigh rs = sum_by (λ (r : RoundOf Block). weight r.part) rs

  abbrev pub round_of : A → List ℕ → RoundOf Block
  round_of b g = record { part = block b; i = 0; regs = g }

  -- what a body does
  pub record Does (b : A) (g : List ℕ) (s : S) (bits : Spots) : Type 0 where
    pub keeps : IsRound may_have n (round_of b g)
    pub like : Like (does b g s) (after_round n (round_of b g) bits)
    pub paid : cost (does b g s) ≡ cost s + weight (block b)
    pub found : finds (alive s) (block b) ≡ true
    pub left : alive (does b g s) ≡ left_by (block b)

  abbrev F : EventOf A → S → Type 0
  F = Fine A S n InRange

  abbrev rounds : List (EventOf A) → List (RoundOf Block)
  rounds es = rounds_in (map (event_map A Block block n) es)

  module _ (each : (b : A) (g : List ℕ) (s : S) (bits : Spots) → InRange b g s → Like s bits
      → Does b g s bits) where
    -- what so many events do
    record Ran (es : List (EventOf A)) (s : S) (bits : Spots) : Type 0 where
      keeps : AllByRecursion (IsRound may_have n) (rounds es)
      like : Like (after A S n F does es s) (after_rounds n (rounds es) bits)
      paid : cost (after A S n F does es s) ≡ cost s + weigh (rounds es)
      found : chained (alive s) (rounds es) ≡ true
      safe : list_all (is_event_safe n) (map (event_map A Block block n) es) ≡ true

    ran : (es : List (EventOf A)) (s : S) (bits : Spots) → AllFine A S n F does es s → Like s bits
        → Ran es s bits
    unfolding after AllFine
    ran [] s bits f l = record { keeps = tt; like = l; paid = omega arith; found = refl; safe = refl }
    ran (Done b g ∷ es) s bits f l =
        let d = each b g s bits f.0 l in
        let r = ran es (does b g s) (after_round n (round_of b g) bits) f.1 d.like in
        let k = sum_by-cons (λ (r : RoundOf Block). weight r.part) (round_of b g) (rounds es) in
        record {
          keeps = (d.keeps, r.keeps);
          like = r.like;
          paid = omega (arith, r.paid, d.paid, k);
          found = and_from (finds (alive s) (block b)) (chained (left_by (block b)) (rounds es))
              d.found (subst (λ a. chained a (rounds es) ≡ true) d.left r.found);
          safe = r.safe;
        }
    ran (Moved m g ∷ es) s bits f l =
        let r = ran es s bits f.1 l in
        record {
          keeps = r.keeps;
          like = r.like;
          paid = r.paid;
          found = r.found;
          safe = and_from (is_safe m g) _ (safe_is m g f.0) r.safe;
        }
    ran (Counted c g ∷ es) s bits f l =
        let r = ran es s bits f.1 l in
        record {
          keeps = r.keeps;
          like = r.like;
          paid = r.paid;
          found = r.found;
          safe = and_from _ _ (le-leb (slice_index g c) n f.0) r.safe;
        }

    -- what a flow does
    pub record FlowDoes (f : FlowOf A) (Q : List ℕ → S → Type 0) (s : S) (bits : Spots) : Type 0 where
      pub keeps : AllByRecursion (IsRound may_have n) (flow_rounds n (flow_map block f))
      pub regs : List ℕ
      pub end : S
      pub post : Q regs end
      pub like : Like end (after_rounds n (flow_rounds n (flow_map block f)) bits)
      pub paid : cost end ≡ cost s + weigh (flow_rounds n (flow_map block f))
      pub found : chained (alive s) (flow_rounds n (flow_map block f)) ≡ true
      pub safe : list_all (is_event_safe n) (run n (flow_map block f) zeros).events ≡ true

    pub flow_does : (f : FlowOf A) (Q : List ℕ → S → Type 0) (s : S) (bits : Spots)
        → wp A S n F does f Q zeros s → Like s bits → FlowDoes f Q s bits
    flow_does f Q s bits w l =
        let g = sound A S n F does f Q zeros s w in
        let es = (run n f zeros).events in
        let r = ran es s bits g.fine l in
        let e = sym (run_map A Block block n f zeros).events in
        record {
          keeps = subst (λ es. AllByRecursion (IsRound may_have n) (rounds_in es)) e r.keeps;
          regs = (run n f zeros).regs;
          end = after A S n F does es s;
          post = g.post;
          like = subst (λ xs. Like (after A S n F does es s) (after_rounds n (rounds_in xs) bits)) e
              r.like;
          paid = subst (λ xs. cost (after A S n F does es s) ≡ cost s + weigh (rounds_in xs))
              e r.paid;
          found = subst (λ xs. chained (alive s) (rounds_in xs) ≡ true) e r.found;
          safe = subst (λ xs. list_all (is_event_safe n) xs ≡ true) e r.safe;
        }

-- what holds of what is made of each body holds of every body of the flow
module _ (A : Type 0) (block : A → Block) (P : Block → Type 0) (h : (b : A) → P (block b)) where
  mutual
    pub flow_each : (f : FlowOf A) → AllFlow P (flow_map block f)
    flow_each End = tt
    flow_each (Do b k) = (h b, flow_each k)
    flow_each (Put m k) = flow_each k
    flow_each (If r x y k) = (flow_each x, (flow_each y, flow_each k))
    flow_each (Loop r ts k) = (acts_each ts, flow_each k)

    acts_each : (ts : TurnsOf A) → AllActs P (acts_map block ts)
    acts_each (Last x) = flow_each x
    acts_each (Turn x ts) = (flow_each x, acts_each ts)

-- a test that passes at each width
range_all : (p : ℕ → Bool) (a k : ℕ) → ((n : ℕ) → a ≤ n → n < a + k → p n ≡ true)
    → list_all p (range_with_len a k) ≡ true
range_all p a zero h = refl
range_all p a (suc k) h = and_from (p a) (list_all p (range_with_len (a + 1) k))
    (h a (omega arith) (omega arith))
    (range_all p (a + 1) k (λ n le lt. h n (omega (arith, le)) (omega (arith, lt))))

pub all_widths : (p : ℕ → Bool) → ((n : ℕ) → 0 < n → n ≤ WIDTH_MAX → p n ≡ true)
    → list_all p widths ≡ true
all_widths p h = range_all p 1 WIDTH_MAX (λ n le lt. h n le (omega (arith, lt)))
