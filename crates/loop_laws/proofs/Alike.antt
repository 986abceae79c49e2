-- Which rows the owners have plays no part in what is said of states.
use Rattle.loop_laws.proofs.Common.{or_parts, ◌≡◌, ℕ, zero, suc, ◌+◌, ◌<◌, ◌≤◌, Bool, true, false}
use Rattle.loop_laws.proofs.Common.{cond, List, [], ◌∷◌, ◌++◌, map, length, refl, sym, ap, ◌∙◌, inl}
use Rattle.loop_laws.proofs.Common.{inr, arith, list_any, list_all, nat_tests, cases_Bool}
use Rattle.loop_laws.proofs.Common.{length-map, Lit, Place, Block, StepOf, sum_by-cons, RoundOf}
use Rattle.loop_laws.proofs.Common.{flow_rounds, all_rounds, chained, flow_finds, states_in}
use Rattle.loop_laws.proofs.Common.{steps_find, FlowOf, flow_map, widths, Single, Along, Flowed}
use Rattle.loop_laws.proofs.Common.{is_state, nth_place, has_states, row_count, enters, leaves}
use Rattle.loop_laws.proofs.Common.{row_outs, turn_cost, plain_cost}
use Rattle.std.specs.Prelude.{◌||◌}
use Rattle.loop_ir.specs.Chains.{is_alive, finds, left_by}
use Rattle.loop_ir.specs.States.{RowsFirst, StatesFit}
use Rattle.loop_ir.specs.Costs.{rounds_cost}
use Rattle.loop_laws.proofs.FlowRounds.{round_map, flow_rounds_map}
use Rattle.loop_laws.proofs.RoundsMap.{all_rounds_map}
use Rattle.loop_laws.specs.Rooms.{Room, room_at, room_for, Owner, InRoom, InCells, Mark, Marked}
use Rattle.loop_laws.specs.Rooms.{placed, placed_body, placed_steps}
use Rattle.loop_laws.specs.Forms.{are_rows_first, states_fit}
use Rattle.loop_laws.proofs.Summed.{rounds_sum}

-- no room stands in cells
abbrev pub HaveRows : List Room → Type 0
HaveRows rooms = (k : ℕ) → is_state (room_at rooms k).space ≡ false

-- a loop program lies in rooms of which none stands in cells
pub record InRooms (marked : List (StepOf Marked)) (steps : List (StepOf Block)) : Type 0 where
  pub rooms : List Room
  pub rows : HaveRows rooms
  pub same : steps ≡ placed_steps rooms marked

pub past_row : (rooms : List Room) (k : ℕ) → length rooms ≤ k
    → is_state (room_at rooms k).space ≡ false
past_row [] k le = refl
past_row (r ∷ rs) zero le = absurd (omega arith)
past_row (r ∷ rs) (suc k) le = past_row rs k (omega arith)

module _ (rooms : List Room) (rows : HaveRows rooms) where
  -- what is made of a place by whether it is a state, and of a state by its layout
  pick : {A : Type 0} (x : ℕ → A) (y : A) (o : Owner)
      → cond (is_state (room_for rooms o).space) (x (room_for rooms o).which) y
      ≡ cond (is_state (room_for [] o).space) (x (room_for [] o).which) y
  pick x y (InRoom k) = ap (λ b. cond b (x (room_at rooms k).which) y) (rows k)
  pick x y (InCells w) = refl

  pub state_like : (o : Owner) → is_state (room_for rooms o).space ≡ is_state (room_for [] o).space
  state_like (InRoom k) = rows k
  state_like (InCells w) = refl

  pub enters_like : (k : ℕ) (ms : List Mark) → enters k (map (placed rooms) ms)
      ≡ enters k (map (placed []) ms)
  enters_like k [] = refl
  enters_like k (m ∷ ms) = rw (enters_like (k + 1) ms) (let t = enters (k + 1) (map (placed []) ms) in
      pick (λ w. record { lit = record { node = k + 1; inverted = false }; layout = w } ∷ t) t
      m.owner)

  pub leaves_like : (ms : List Mark) (ls : List Lit) → leaves (map (placed rooms) ms) ls
      ≡ leaves (map (placed []) ms) ls
  leaves_like [] ls = refl
  leaves_like (m ∷ ms) [] = refl
  leaves_like (m ∷ ms) (l ∷ ls) = rw (leaves_like ms ls) (let t = leaves (map (placed []) ms) ls in
      pick (λ w. record { lit = l; layout = w } ∷ t) t m.owner)

  pub outs_like : (ms : List Mark) (ls : List Lit) → row_outs (map (placed rooms) ms) ls
      ≡ row_outs (map (placed []) ms) ls
  outs_like [] ls = refl
  outs_like (m ∷ ms) [] = refl
  outs_like (m ∷ ms) (l ∷ ls) = rw (state_like m.owner, outs_like ms ls)

  states_like : (ms : List Mark) → states_in (map (placed rooms) ms)
      ≡ states_in (map (placed []) ms)
  states_like [] = refl
  states_like (m ∷ ms) = rw (states_like ms) (let t = states_in (map (placed []) ms) in
      pick (λ w. w ∷ t) t m.owner)

  all_like : (ms : List Mark) → list_all (λ p. is_state p.space) (map (placed rooms) ms)
      ≡ list_all (λ p. is_state p.space) (map (placed []) ms)
  all_like [] = refl
  all_like (m ∷ ms) = rw (state_like m.owner, all_like ms)

  pub first_like : (ms : List Mark) → are_rows_first (map (placed rooms) ms)
      ≡ are_rows_first (map (placed []) ms)
  first_like [] = refl
  first_like (m ∷ ms) = rw (state_like m.owner, all_like ms, first_like ms)

  any_like : (ms ns : List Mark)
      → list_any (λ p. is_state p.space) (map (placed rooms) ms ++ map (placed rooms) ns)
      ≡ list_any (λ p. is_state p.space) (map (placed []) ms ++ map (placed []) ns)
  any_like [] [] = refl
  any_like [] (n ∷ ns) = rw (state_like n.owner, any_like [] ns)
  any_like (m ∷ ms) ns = rw (state_like m.owner, any_like ms ns)

  pub has_like : (b : Marked) → has_states (placed_body rooms b) ≡ has_states (placed_body [] b)
  has_like b = any_like b.reads b.writes

  pub finds_like : (alive : List ℕ) (b : Marked) → finds alive (placed_body rooms b)
      ≡ finds alive (placed_body [] b)
  finds_like alive b = ap (list_all (λ w. is_alive w alive)) (states_like b.reads)

  pub left_like : (b : Marked) → left_by (placed_body rooms b) ≡ left_by (placed_body [] b)
  left_like b = states_like b.writes

  rounds_find_like : (alive : List ℕ) (rs : List (RoundOf Marked))
      → chained alive (map (round_map (placed_body rooms)) rs)
      ≡ chained alive (map (round_map (placed_body [])) rs)
  rounds_find_like alive [] = refl
  rounds_find_like alive (r ∷ rs) = rw (
    states_like r.part.reads,
    states_like r.part.writes,
    rounds_find_like (left_by (placed_body [] r.part)) rs,
  )

  flow_find_like : (x : FlowOf Marked) → flow_finds (flow_map (placed_body rooms) x)
      ≡ flow_finds (flow_map (placed_body []) x)
  flow_find_like x = at_widths widths
    where
      at_widths : (ns : List ℕ)
          → list_all (λ n. chained [] (flow_rounds n (flow_map (placed_body rooms) x))) ns
          ≡ list_all (λ n. chained [] (flow_rounds n (flow_map (placed_body []) x))) ns
      at_widths [] = refl
      at_widths (n ∷ ns) = rw (
        flow_rounds_map Marked Block (placed_body rooms) n x,
        flow_rounds_map Marked Block (placed_body []) n x,
        rounds_find_like [] (flow_rounds n x),
        at_widths ns,
      )

  pub steps_find_like : (alive : List ℕ) (ss : List (StepOf Marked))
      → steps_find alive (placed_steps rooms ss) ≡ steps_find alive (placed_steps [] ss)
  steps_find_like alive [] = refl
  steps_find_like alive (Single b ∷ ss) = rw (
    states_like b.reads,
    states_like b.writes,
    steps_find_like (left_by (placed_body [] b)) ss,
  )
  steps_find_like alive (Along b ∷ ss) = rw (
    states_like b.reads,
    states_like b.writes,
    steps_find_like (left_by (placed_body [] b)) ss,
  )
  steps_find_like alive (Flowed x ∷ ss) = rw (flow_find_like x, steps_find_like [] ss)

  pub plain_like : (b : Marked) → plain_cost (placed_body rooms b) ≡ plain_cost (placed_body [] b)
  plain_like b = rw (outs_like b.writes b.outs)

-- a count of each body that is the same wherever the rows lie is the same of all steps
module _ (f : Block → ℕ) (rooms : List Room)
    (like : (b : Marked) → f (placed_body rooms b) ≡ f (placed_body [] b)) where
  mapped_like : (rs : List (RoundOf Marked))
      → rounds_sum f (map (round_map (placed_body rooms)) rs)
      ≡ rounds_sum f (map (round_map (placed_body [])) rs)
  mapped_like [] = refl
  mapped_like (r ∷ rs) =
      let to = λ (rs : List Room). map (round_map (placed_body rs)) in
      rw (
        sum_by-cons (λ (q : RoundOf Block). f q.part) _ (to rooms rs),
        sum_by-cons (λ (q : RoundOf Block). f q.part) _ (to [] rs),
        like r.part,
        mapped_like rs,
      )

  pub rounds_like : (n : ℕ) (ss : List (StepOf Marked))
      → rounds_sum f (all_rounds n (placed_steps rooms ss))
      ≡ rounds_sum f (all_rounds n (placed_steps [] ss))
  rounds_like n ss =
      let to = λ (rs : List Room). all_rounds_map Marked Block (placed_body rs) n ss in
      ap (rounds_sum f) (to rooms) ∙ mapped_like (all_rounds n ss)
      ∙ ap (rounds_sum f) (sym (to []))

-- what all rounds take doesn't depend on where the rows lie
pub rounds_cost_like : (rooms : List Room) (n : ℕ) (ss : List (StepOf Marked))
    → rounds_cost (all_rounds n (placed_steps rooms ss))
    ≡ rounds_cost (all_rounds n (placed_steps [] ss))
rounds_cost_like rooms n ss = rounds_like turn_cost rooms (λ b. refl) n ss

-- the places before the first state are rows
rows_before : (ps : List Place) (k : ℕ) → k < row_count ps → is_state (nth_place ps k).space ≡ false
rows_before [] k lt = absurd (omega arith)
rows_before (p ∷ ps) k lt = by (is_state p.space) k refl lt (rows_before ps)
  where
    by : (b : Bool) (k : ℕ) → is_state p.space ≡ b → k < cond b 0 (suc (row_count ps))
        → ((j : ℕ) → j < row_count ps → is_state (nth_place ps j).space ≡ false)
        → is_state (nth_place (p ∷ ps) k).space ≡ false
    by true k e lt more = absurd (omega arith)
    by false zero e lt more = e
    by false (suc k) e lt more = more k (omega arith)

all_at : (ps : List Place) (k : ℕ) → list_all (λ p. is_state p.space) ps ≡ true → k < length ps
    → is_state (nth_place ps k).space ≡ true
all_at [] k all lt = absurd (omega arith)
all_at (p ∷ ps) zero all lt = grind arith
all_at (p ∷ ps) (suc k) all lt = all_at ps k (grind arith) (omega arith)

states_after : (ps : List Place) (k : ℕ) → are_rows_first ps ≡ true → row_count ps ≤ k
    → k < length ps → is_state (nth_place ps k).space ≡ true
states_after [] k f le lt = absurd (omega arith)
states_after (p ∷ ps) k f le lt = by (is_state p.space) k refl f le lt (states_after ps)
  where
    by : (b : Bool) (k : ℕ) → is_state p.space ≡ b
        → cond b (list_all (λ p. is_state p.space) ps) (are_rows_first ps) ≡ true
        → cond b 0 (suc (row_count ps)) ≤ k → k < length (p ∷ ps)
        → ((j : ℕ) → are_rows_first ps ≡ true → row_count ps ≤ j → j < length ps
        → is_state (nth_place ps j).space ≡ true) → is_state (nth_place (p ∷ ps) k).space ≡ true
    by true zero e f le lt more = e
    by true (suc k) e f le lt more = all_at ps k f (omega arith)
    by false zero e f le lt more = absurd (omega arith)
    by false (suc k) e f le lt more = more k f (omega arith) (omega arith)

pub rows_first : (ps : List Place) → are_rows_first ps ≡ true → RowsFirst ps
rows_first ps f = record {
  row = rows_before ps;
  state = λ k le lt. states_after ps k f le lt;
}

-- of places that are no states each is a row
pub none_at : (ps qs : List Place) (k : ℕ) → list_any (λ p. is_state p.space) (ps ++ qs) ≡ false
    → k < length ps → is_state (nth_place ps k).space ≡ false
none_at [] qs k none lt = absurd (omega arith)
none_at (p ∷ ps) qs zero none lt = grind arith
none_at (p ∷ ps) qs (suc k) none lt = none_at ps qs k (grind arith) (omega arith)

pub none_first : (ps qs : List Place) → list_any (λ p. is_state p.space) (ps ++ qs) ≡ false
    → are_rows_first qs ≡ true
none_first [] [] none = refl
none_first [] (q ∷ qs) none = rw (or_parts (is_state q.space) _ none).0
    (none_first [] qs (grind arith))
none_first (p ∷ ps) qs none = none_first ps qs (grind arith)

-- a body without states has nothing to keep
pub rows_fit : (b : Block) → has_states b ≡ false → length b.outs ≡ length b.writes → StatesFit b
rows_fit b none written = record {
  first = rows_first b.writes (none_first b.reads b.writes none);
  written = written;
  read = λ k lt e. (let f = none_at b.reads b.writes k none lt in absurd cc);
}

-- what the test says of a body with states
record IsTested (b : Block) : Type 0 where
  reads : length b.reads ≤ b.graph.inputs
  first : are_rows_first b.writes ≡ true

tested_is : (b : Block) → has_states b ≡ true → states_fit b ≡ true → IsTested b
tested_is b has h = let e = rw has at h in record {
  reads = grind (arith, nat_tests, e);
  first = grind (arith, e);
}

-- the states of a body that passes the test fit
pub tested_fit : (rooms : List Room) → HaveRows rooms → (b : Marked)
    → states_fit (placed_body [] b) ≡ true → length b.outs ≡ length (map (placed rooms) b.writes)
    → StatesFit (placed_body rooms b)
tested_fit rooms rows b h written =
    elim (cases_Bool (has_states (placed_body [] b))) [
      | inl has ↦
          let tested = tested_is (placed_body [] b) has h in
          let x = length-map b.reads (placed rooms) in
          let y = length-map b.reads (placed []) in
          record {
            first = rows_first _ (first_like rooms rows b.writes ∙ tested.first);
            written = written;
            read = λ k lt e. (let l = tested.reads in omega (arith, lt, l, x, y));
          }
      | inr none ↦ rows_fit (placed_body rooms b) (has_like rooms rows b ∙ none) written
    ]
