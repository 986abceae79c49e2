-- The loop of a block with its one state in cells does the block, within its ceilings.
use Rattle.block_lower.proofs.Common.{◌≡◌, ℕ, zero, suc, ◌+◌, ◌*◌, ◌<◌, ◌≤◌, Bool, true, false}
use Rattle.block_lower.proofs.Common.{cond, List, [], ◌∷◌, map, length, Option, Some, None, refl}
use Rattle.block_lower.proofs.Common.{sym, ap, ◌∙◌, subst, arith, append-nil, fold, ◌⊎◌, inl, inr}
use Rattle.block_lower.proofs.Common.{◌==◌, ◌&&◌, AllByRecursion, list_all, cases_Bool, and_parts}
use Rattle.block_lower.proofs.Common.{and_from, or_left, eqb-true, ne_eqb, sum_by-cons}
use Rattle.block_lower.proofs.Common.{mul-le-mul_left, Lit, Kind, Word, Bit, State, Block, Visit}
use Rattle.block_lower.proofs.Common.{NameValue, visited, with_states, with_blanks, is_among}
use Rattle.block_lower.proofs.Common.{state_names, Sub, Zero, Place, Slot, StepOf, FlowOf, RoundOf}
use Rattle.block_lower.proofs.Common.{all_rounds, flow_rounds, sub_value, Spot, Spots, is_state}
use Rattle.block_lower.proofs.Common.{spot_in, spot_at, after_round, after_rounds, set_spot}
use Rattle.block_lower.proofs.Common.{IsWellFormed, row_count, chained, left_by, turn_cost}
use Rattle.block_lower.proofs.Common.{plain_cost, is_copy, rounds_cost, step_cost, step_bodies}
use Rattle.block_lower.proofs.Common.{HasCommands, IsSmall, IsRound, CanCompile, HasValues}
use Rattle.block_lower.proofs.Common.{step_stands, Slots, targets_of, IsStatementRow, IsLowered}
use Rattle.block_lower.proofs.Common.{Does, all_count, rounds_sum}
use Rattle.std.specs.List.{list_any}
use Rattle.std.proofs.lemmas.Bool.{eq-eqb}
use Rattle.loop_ir.specs.Plain.{Block as Body}
use Rattle.loop_ir.specs.Plain.StepOf.{Flowed}
use Rattle.loop_ir.specs.Flows.{AllFlow, all_flow}
use Rattle.loop_ir.specs.FlowTests.{names, counts, nests, runs_safely}
use Rattle.loop_ir.specs.States.{row_outs}
use Rattle.loop_ir.specs.Chains.{states_in, is_alive, flow_finds}
use Rattle.loop_ir.specs.Costs.{sub_code}
use Rattle.loop_ir.specs.Limits.{stays_in_registers, is_in_register, flow_stands}
use Rattle.loop_laws.proofs.Same.{spot_true, spot_same}
use Rattle.block_lower.specs.Inputs.{block_inputs}
use Rattle.block_lower.specs.declared.home.Home.{Home}
use Rattle.block_lower.specs.Held.{HeldCommands, CarriesRight, IsHeldOne, cell_place, same_place}
use Rattle.block_lower.specs.Held.{in_register, flow_place, held_place, held_start, held_body}
use Rattle.block_lower.specs.Held.{held_last, held_steps, each_last, stand_in}
use Rattle.block_lower.specs.Form.{kind_sub, place_of, home, IsBlockBody}
use Rattle.block_lower.proofs.Names.{among-one, among-here}
use Rattle.block_lower.proofs.Rows.{position, place-row, named_row}
use Rattle.block_lower.proofs.Facts.{Given, IsState, IsTarget, IsNamed, state-named, target}
use Rattle.block_lower.proofs.Facts.{target-named, target-among}
use Rattle.block_lower.proofs.Folds.{positions_from}
use Rattle.block_lower.proofs.Stand.{Away, in_rows, stand, cell_spot}
use Rattle.block_lower.proofs.Visits.{DoesAt, does-at, row_place, IsTurn, Stands, AreRead}
use Rattle.block_lower.proofs.Visits.{one-visit, writes-long, write-place}
use Rattle.block_lower.proofs.Starts.{lone-does, started, begins}
use Rattle.block_lower.proofs.Ends.{does-block}
use Rattle.block_lower.proofs.Bodies.{HasSub, all-subs, body-small, turn-round}
use Rattle.block_lower.proofs.Bodies.{turn-well, round-values, at-count, rows-first, lone-well}
use Rattle.block_lower.proofs.Bodies.{lone-small, lone-turn}
use Rattle.block_lower.proofs.InRows.{one-value, name-row, place-sub, within-ceiling}
use Rattle.block_lower.proofs.EachLast.{regs_at, round_with, from_on, rounds_are, every_width}
use Rattle.block_lower.proofs.EachLast.{always_safe, sum_from, all_from, chain_from}

-- places
abbrev as_spot : Place → Spot
as_spot p = record { space = p.space; which = p.which; index = sub_code p.sub }

pub map-map : {A : Type 0} (f : Place → Place) (h : A → Place) (xs : List A)
    → map f (map h xs) ≡ map (λ x. f (h x)) xs
map-map f h [] = refl
map-map f h (x ∷ xs) = ap (λ ys. f (h x) ∷ ys) (map-map f h xs)

either-sub : (w : ℕ) (s : Sub) (c : Bool) (p : Place) → (p.sub ≡ Zero) ⊎ (p.sub ≡ s)
    → ((cond c (cell_place w) p).sub ≡ Zero) ⊎ ((cond c (cell_place w) p).sub ≡ s)
either-sub w s true p h = inl refl
either-sub w s false p h = h

-- the subscript in a flow
abbrev flow_sub : Bool → Sub
flow_sub down = in_register (kind_sub down Word)

low-sub : (down : Bool) → sub_value 1 0 (regs_at 0 0) (flow_sub down) ≡ 0
low-sub true = refl
low-sub false = refl

register-stays : (named : ℕ → Bool) → named 0 ≡ true → named 1 ≡ true → (down : Bool)
    → is_in_register named (flow_sub down) ≡ true
register-stays named a c true = c
register-stays named a c false = a

flow-index : (n i m : ℕ) → i + m + 1 ≡ n → (down : Bool) (k : Kind)
    → sub_value n 0 (regs_at i m) (in_register (kind_sub down k))
    ≡ sub_value n i [] (kind_sub down k)
flow-index n i m at true Word = omega (arith, at)
flow-index n i m at false Word = refl
flow-index n i m at true Bit = refl
flow-index n i m at false Bit = refl

flow-row : (n i m : ℕ) → i + m + 1 ≡ n → (down : Bool) (o : Option Slot)
    → spot_at n 0 (regs_at i m) (flow_place (place_of down o)) ≡ spot_at n i [] (place_of down o)
flow-row n i m at down None = refl
flow-row n i m at down (Some x) = ap (spot_in n x.space x.which) (flow-index n i m at down x.kind)

-- rows and states among places
rows-most : (ps : List Place) (ls : List Lit) → length ls ≡ length ps
    → row_count ps ≤ length (row_outs ps ls)
rows-most [] ls long = omega arith
rows-most (p ∷ ps) [] long = absurd (omega (arith, long))
rows-most (p ∷ ps) (l ∷ ls) long =
    let m = rows-most ps ls (omega (arith, long)) in
    elim (cases_Bool (is_state p.space)) [
      | inl e ↦ rw e (omega arith)
      | inr e ↦ rw e (omega (arith, m))
    ]

count-flow : (ps : List Place) → row_count (map flow_place ps) ≡ row_count ps
count-flow [] = refl
count-flow (p ∷ ps) = ap (λ c. cond (is_state p.space) 0 (suc c)) (count-flow ps)

all-alive : (w : ℕ) (vs alive : List ℕ) → list_all (λ v. v == w) vs ≡ true
    → is_alive w alive ≡ true → list_all (λ v. is_alive v alive) vs ≡ true
all-alive w [] alive h e = refl
all-alive w (v ∷ vs) alive h e =
    let p = and_parts (v == w) (list_all (λ v. v == w) vs) h in
    and_from (is_alive v alive) (list_all (λ v. is_alive v alive) vs)
    (ap (λ x. is_alive x alive) (eqb-true v w p.0) ∙ e) (all-alive w vs alive p.1 e)

one-alive : (w : ℕ) (ps : List Place) → row_count ps < length ps → stand_in w ps ≡ true
    → is_alive w (states_in ps) ≡ true
one-alive w [] l h = absurd (omega (arith, l))
one-alive w (p ∷ ps) l h = elim (cases_Bool (is_state p.space)) [
  | inl e ↦
      let k : ((p.which == w) && list_all (λ v. v == w) (states_in ps)) ≡ true = rw e at h in
      rw e (or_left (p.which == w) (list_any (λ v. v == w) (states_in ps))
      (and_parts (p.which == w) (list_all (λ v. v == w) (states_in ps)) k).0)
  | inr e ↦
      let k : stand_in w ps ≡ true = rw e at h in
      let m : suc (row_count ps) < suc (length ps) = rw e at l in
      rw e (one-alive w ps (omega (arith, m)) k)
]

-- costs
node-plain : (c : Body) → 0 < length c.graph.nodes → length c.outs ≡ length c.writes
    → 4 * length c.graph.nodes + 3 * row_count c.writes ≤ plain_cost c
node-plain c some long =
    let e = ne_eqb (length c.graph.nodes) 0 (λ z. absurd (omega (arith, some, z))) in
    let m = rows-most c.writes c.outs long in
    rw e (omega (arith, m))

start-plain : (h : Home) (cmds : HeldCommands) → plain_cost (held_start h cmds.start) ≡ 1
start-plain h cmds = at (is_copy (held_start h cmds.start))
  where
    at : (v : Bool) → ◌≡◌ {A = ℕ} (cond v 1 1) 1
    at true = refl
    at false = refl

commands : (c : Body) (most : ℕ) → CarriesRight c most → most ≤ plain_cost c → HasCommands c
commands c most right le = record {
  does = right.does;
  few = let f = right.few in omega (arith, f, le);
}

module _ {slots : Slots} {fb fw : ℕ} {b : Block} {body : Body} (g : Given slots fb fw b)
    (is : IsBlockBody slots b body) (s : State) (one : b.states ≡ s ∷ []) (w : ℕ)
    (cmds : HeldCommands) (held : IsHeldOne (home slots b.down s w) body cmds) where
  abbrev h : Home
  h = home slots b.down s w

  abbrev start : Body
  start = held_start h cmds.start

  abbrev each : Body
  each = held_body h body cmds.each

  abbrev last : Body
  last = held_last h body cmds.last

  -- where they find names, with the state in its row or in cells
  abbrev flow_at : List ℕ → Place
  flow_at x = flow_place (row_place slots b x)

  abbrev cell_at : List ℕ → Place
  cell_at x = held_place h (row_place slots b x)

  reads-at : map (held_place h) body.reads ≡ map cell_at (block_inputs b)
  reads-at = ap (map (held_place h)) is.reads ∙ map-map (held_place h) (row_place slots b) (block_inputs b)

  each-does : DoesAt slots b cell_at cell_at each
  each-does = does-at is cell_at cell_at each.reads each.writes cmds.each reads-at
      (ap (map (held_place h)) is.writes
      ∙ map-map (held_place h) (row_place slots b) (targets_of b.assigns))

  last-does : DoesAt slots b cell_at flow_at last
  last-does = does-at is cell_at flow_at last.reads last.writes cmds.last reads-at
      (ap (map flow_place) is.writes ∙ map-map flow_place (row_place slots b) (targets_of b.assigns))

  last-count : row_count last.writes ≡ length last.writes
  last-count = all_count last.writes (λ j l.
      let m : j < length b.assigns = omega (arith, l, writes-long last-does) in
      ap (λ (p : Place). is_state p.space) (write-place last-does j m)
      ∙ name-row g (target b j) (target-named b j m))

  -- the state
  state-is : (x : List ℕ) → IsState b x → x ≡ s.name
  state-is x e = sym (among-one s.name x
      (subst (λ ss. is_among (map (λ (t : State). t.name) ss) x ≡ true) one e))

  the-state : IsState b s.name
  the-state = subst (λ ss. is_among (map (λ (t : State). t.name) ss) s.name ≡ true) (sym one)
      (among-here s.name)

  same-is : (x : List ℕ) → IsNamed b x
      → same_place (row_place slots b x) h.place ≡ is_among (state_names b) x
  same-is x e = elim (cases_Bool (is_among (state_names b) x)) [
    | inl f ↦ ap (λ y. same_place (row_place slots b y) h.place) (state-is x f)
        ∙ spot_same (as_spot h.place) (as_spot h.place) refl ∙ sym f
    | inr f ↦ elim (cases_Bool (same_place (row_place slots b x) h.place)) [
      | inl t ↦
          let q = spot_true (as_spot (row_place slots b x)) (as_spot h.place) t in
          let n = one-value g x s.name e (state-named b s.name the-state)
          (ap (λ (r : Spot). r.space) q) (ap (λ (r : Spot). r.which) q) in
          let k = subst (IsState b) (sym n) the-state in absurd (cc)
      | inr t ↦ t ∙ sym f
    ]
  ]

  cases_cell : (x : List ℕ) → IsNamed b x → (IsState b x × (cell_at x ≡ cell_place w))
      ⊎ ((is_among (state_names b) x ≡ false) × (cell_at x ≡ flow_at x))
  cases_cell x e = elim (cases_Bool (is_among (state_names b) x)) [
    | inl f ↦ inl (f, ap (λ c. cond c (cell_place w) (flow_at x)) (same-is x e ∙ f))
    | inr f ↦ inr (f, ap (λ c. cond c (cell_place w) (flow_at x)) (same-is x e ∙ f))
  ]

  -- the block assigns its state
  set : (x : List ℕ) → IsState b x → IsTarget b x
  set x e =
      let j = row_count each.writes in
      let ends = held.holds.last in
      let l : j < length b.assigns = omega (arith, ends, writes-long each-does) in
      let t = at-count each.writes (omega (arith, ends)) in
      elim (cases_cell (target b j) (target-named b j l)) [
        | inl f ↦ subst (IsTarget b) (state-is (target b j) f.0 ∙ sym (state-is x e))
            (target-among b j l)
        | inr f ↦
            let u = sym t ∙ ap (λ (p : Place). is_state p.space) (write-place each-does j l ∙ f.1)
            ∙ name-row g (target b j) (target-named b j l) in absurd (cc)
      ]

  abbrev in_cells : Away b
  in_cells = record {
    is = is_among (state_names b);
    cells = w;
    state = λ x e. e;
    alone = λ x y e f. state-is x e ∙ sym (state-is y f);
    set = set;
  }

  -- what a round finds
  module _ (n i m : ℕ) (at : i + m + 1 ≡ n) where
    abbrev p : ℕ
    p = position b.down n i

    flow-spot : (x : List ℕ) → spot_at n 0 (regs_at i m) (flow_at x) ≡ named_row n slots p x
    flow-spot x = flow-row n i m at b.down (slots x) ∙ place-row n i b.down (slots x)

    cell-spot : (x : List ℕ) → IsNamed b x
        → spot_at n 0 (regs_at i m) (cell_at x) ≡ stand in_cells slots n p x
    cell-spot x e = elim (cases_cell x e) [
      | inl f ↦ ap (spot_at n 0 (regs_at i m)) f.1
          ∙ sym (ap (λ c. cond c (cell_spot w) (named_row n slots p x)) f.0)
      | inr f ↦ ap (spot_at n 0 (regs_at i m)) f.1 ∙ flow-spot x
          ∙ sym (ap (λ c. cond c (cell_spot w) (named_row n slots p x)) f.0)
    ]

    each-turn : IsTurn slots in_cells in_cells n i cell_at cell_at (round_with each i m)
    each-turn = record {
      does = each-does;
      reads = cell-spot;
      writes = cell-spot;
      same = λ x e s. refl;
    }

    last-turn : IsTurn slots in_cells (in_rows b) n i cell_at flow_at (round_with last i m)
    last-turn = record {
      does = last-does;
      reads = cell-spot;
      writes = λ x e. flow-spot x;
      same = λ x e f. elim (cases_cell x e) [ inl c ↦ absurd (let t = c.0 in cc) | inr c ↦ sym c.1 ];
    }

  -- all positions from one on, of which so many come after
  flow-visits : {n : ℕ} {old : List ℕ → NameValue} {before : Spots} → AreRead slots b n old before
      → (m i : ℕ) → i + m + 1 ≡ n → (names : List ℕ → NameValue) (bits : Spots)
      → Stands slots in_cells n old before i names bits
      → Stands slots (in_rows b) n old before n
      (fold (visited b) names (positions_from b.down n i (suc m)))
      (after_rounds n (from_on each last i m) bits)
  flow-visits {n = n} {old = old} {before = before} all zero i at names bits st =
      let e : i + 1 ≡ n = omega (arith, at) in
      subst (λ j. Stands slots (in_rows b) n old before j (visited b names (position b.down n i))
      (after_round n (round_with last i 0) bits)) e
      (one-visit g (last-turn n i 0 at) (omega (arith, at)) all st)
  flow-visits {n = n} all (suc m) i at names bits st =
      flow-visits all m (i + 1) (omega (arith, at)) (visited b names (position b.down n i))
      (after_round n (round_with each i (suc m)) bits)
      (one-visit g (each-turn n i (suc m) at) (omega (arith, at)) all st)

  abbrev flow : FlowOf Body
  flow = each_last start each last

  abbrev steps : List (StepOf Body)
  steps = held_steps h body cmds

  rounds-of : (m : ℕ) → all_rounds (suc m) steps ≡ round_with start 0 0 ∷ from_on each last 0 m
  rounds-of m = append-nil (flow_rounds (suc m) flow) ∙ rounds_are start each last m

  flow-ends : (m : ℕ) (old : List ℕ → NameValue) (bits : Spots) → AreRead slots b (suc m) old bits
      → Stands slots (in_rows b) (suc m) old bits (suc m)
      (fold (visited b) (with_states (with_blanks (suc m) old b.assigns) b.states)
      (positions_from b.down (suc m) 0 (suc m)))
      (after_rounds (suc m) (all_rounds (suc m) steps) bits)
  flow-ends m old bits all =
      let n = suc m in
      let first = started in_cells slots n b.states bits in
      let begun : after_round n (round_with start 0 0) bits ≡ first =
      lone-does n h.start (cell_place w) cmds.start (regs_at 0 0) bits
      ∙ sym (ap (λ ss. started in_cells slots n ss bits) one
      ∙ ap (λ c. set_spot bits (cond c (cell_spot w) (named_row n slots 0 s.name)) s.start) the-state)
      in
      subst (Stands slots (in_rows b) n old bits n _)
      (sym (ap (λ rs. after_rounds n rs bits) (rounds-of m)
      ∙ ap (after_rounds n (from_on each last 0 m)) begun))
      (flow-visits all m 0 (omega arith) _ first (begins g n in_cells (omega arith) old bits))

  cells-do : (n : ℕ) → 0 < n → Does slots fb fw (Visit b) n steps
  cells-do zero lt = absurd (omega (arith, lt))
  cells-do (suc m) lt = does-block g (suc m) steps (flow-ends m)

  -- what the rounds take
  pub flow-sum : (f : Body → ℕ) (m : ℕ)
      → rounds_sum f (all_rounds (suc m) steps) ≡ f start + (m * f each + f last)
  flow-sum f m =
      let e = ap (rounds_sum f) (rounds-of m) in
      let a = sum_by-cons (λ (r : RoundOf Body). f r.part) (round_with start 0 0)
      (from_on each last 0 m) in
      let t = sum_from f each last 0 m in
      omega (arith, e, a, t)

  abbrev bound : ℕ
  bound = 4 * length body.graph.nodes + 3 * length b.assigns

  within : (f : Body → ℕ) (n : ℕ) → 0 < n → f start ≤ 1 → f each ≤ bound → f last ≤ bound
      → rounds_sum f (all_rounds n steps) ≤ n * bound + length b.states
  within f zero lt a e l = absurd (omega (arith, lt))
  within f (suc m) lt a e l =
      let t = flow-sum f m in
      let k = ap length one in
      let p = mul-le-mul_left m e in
      omega (arith, t, a, l, k, p)

  pub cells-cost : (n : ℕ) → 0 < n → rounds_cost (all_rounds n steps) ≤ n * bound + length b.states
  cells-cost n lt =
      let begins = held.start.few in
      let round = held.each.few in
      let ends = held.last.few in
      let row = count-flow body.writes in
      let some = held.holds.last in
      within turn_cost n lt (omega (arith, begins))
      (omega (arith, round, some, writes-long each-does))
      (omega (arith, ends, row, last-count, writes-long last-does))

  -- commands can be made of the bodies
  sub-flow : HasSub flow_at (flow_sub b.down)
  sub-flow x = elim (place-sub b.down (slots x)) [
    | inl e ↦ inl (ap in_register e)
    | inr e ↦ inr (ap in_register e)
  ]

  sub-cell : HasSub cell_at (flow_sub b.down)
  sub-cell x = either-sub w (flow_sub b.down) (same_place (row_place slots b x) h.place) (flow_at x)
      (sub-flow x)

  module _ (most : length (block_inputs b) ≤ 80) where
    abbrev may_have : ℕ → Spot → Type 0
    may_have = IsStatementRow slots fb fw (Visit b)

    each-well : IsWellFormed each
    each-well = turn-well g (each-turn 1 0 0 (omega arith)) sub-cell sub-cell (low-sub b.down)

    last-well : IsWellFormed last
    last-well = turn-well g (last-turn 1 0 0 (omega arith)) sub-cell sub-flow (low-sub b.down)

    each-small : IsSmall each
    each-small =
        let ends = held.holds.last in
        let full = held.holds.full in
        body-small each-does sub-cell sub-cell g each-well (record {
          first = rows-first each.writes (omega (arith, ends));
          written = held.holds.long;
          read = λ k l e. omega (arith, l, full);
        }) (commands each _ held.each (node-plain each held.holds.nodes held.holds.long)) most

    last-small : IsSmall last
    last-small =
        let full = held.holds.full in
        let long = is.as_many ∙ sym (writes-long last-does) in
        body-small last-does sub-cell sub-flow g last-well (record {
          first = rows-first last.writes (omega (arith, last-count));
          written = long;
          read = λ k l e. omega (arith, l, full);
        }) (commands last _ held.last (let n = node-plain last held.holds.nodes long in
        let c = count-flow body.writes in omega (arith, n, c))) most

    start-small : IsSmall start
    start-small = lone-small h.start (cell_place w) cmds.start
        (commands start 1 held.start (let p = start-plain h cmds in omega (arith, p)))

    start-turn : (n : ℕ) (regs : List ℕ)
        → IsRound (may_have n) n (record { part = start; i = 0; regs = regs })
    start-turn n regs = lone-turn h.start (cell_place w) cmds.start (may_have n) n regs
        (λ row. absurd (cc)) tt

    rounds-keep : (n : ℕ) → 0 < n → AllByRecursion (IsRound (may_have n) n) (all_rounds n steps)
    rounds-keep zero lt = absurd (omega (arith, lt))
    rounds-keep (suc m) lt =
        let P = IsRound (may_have (suc m)) (suc m) in
        subst (AllByRecursion P) (sym (rounds-of m)) (
          start-turn (suc m) (regs_at 0 0),
          all_from P each last (suc m) 0 m (omega arith) (λ j k at. (
            turn-round g (each-turn (suc m) j k at) (omega (arith, at)),
            turn-round g (last-turn (suc m) j k at) (omega (arith, at)),
          )),
        )

    all-find : flow_finds flow ≡ true
    all-find =
        let ends = held.holds.last in
        every_width (λ n. chained [] (flow_rounds n flow)) (λ m l.
        ap (chained []) (rounds_are start each last m)
        ∙ chain_from each last (λ alive. refl)
        (all-alive w (states_in each.reads) (left_by each) held.holds.reads
        (one-alive w each.writes (omega (arith, ends)) held.holds.writes)) (w ∷ [])
        (all-alive w (states_in each.reads) (w ∷ []) held.holds.reads
        (or_left (w == w) false (eq-eqb w w refl))) 0 m)

    -- what holds of all bodies
    all-three : (P : Body → Type 0) → P start → P each → P last → AllFlow P flow
    all-three P a e l = (a, (((e, tt), ((l, tt), tt)), tt))

    all-pass : (t : Body → Bool) → t start ≡ true → t each ≡ true → t last ≡ true
        → all_flow t flow ≡ true
    all-pass t a e l = and_from _ _ a (and_from _ _ (and_from _ _ (and_from _ _ e refl)
        (and_from _ _ (and_from _ _ l refl) refl)) refl)

    all-stand : flow_stands flow ≡ true
    all-stand =
        let named = λ (r : ℕ). names r flow in
        let stays = register-stays named refl refl b.down in
        and_from (counts flow) _ refl (and_from (nests 2 flow) _ refl
        (and_from (all_flow (stays_in_registers named) flow) (runs_safely flow)
        (all-pass (stays_in_registers named) refl
        (all-subs each-does sub-cell sub-cell (is_in_register named) refl stays)
        (all-subs last-does sub-cell sub-flow (is_in_register named) refl stays))
        (always_safe start each last)))

    can : CanCompile may_have steps
    can = record {
      small = (all-three IsSmall start-small each-small last-small, tt);
      find = and_from (flow_finds flow) true all-find refl;
      stand = and_from (step_stands (Flowed flow)) true all-stand refl;
      values = (
        all-three (HasValues may_have) (round-values may_have _ (start-turn 1 []))
            (round-values may_have _ (turn-round g (each-turn 1 0 0 (omega arith)) (omega arith)))
            (round-values may_have _ (turn-round g (last-turn 1 0 0 (omega arith)) (omega arith))),
        tt,
      );
      rounds = λ n lt wide. rounds-keep n lt;
      size = let x = sum_by-cons step_cost (Flowed flow) [] in let m = is.as_many in
          let t = g.meets.assigns in let v = g.meets.weight in let k = is.nodes in
          omega (arith, x, m, t, v, k);
      few = let x = sum_by-cons step_bodies (Flowed flow) [] in omega (arith, x);
    }

    pub cells-lowered : IsLowered slots fb fw (Visit b) steps
    cells-lowered = record {
      well = (all-three IsWellFormed (lone-well h.start (cell_place w) cmds.start) each-well last-well, tt);
      can = can;
      does = λ n lt wide. cells-do n lt;
      cheap = λ n lt wide. within-ceiling is n (rounds_cost (all_rounds n steps)) (cells-cost n lt);
    }
