-- A flow does a statement, where its bodies have their commands, and where it is known at each width
-- what it does to its rows.
use Rattle.word_flow.proofs.Common.{stays_in_registers, after_statement, list_all}
use Rattle.word_flow.proofs.Common.{AllByRecursion, IsStatementRow, statement_rows, written_names}
use Rattle.word_flow.proofs.Common.{after_rounds, sum_by-cons, flow_rounds, rounds_cost, append-nil}
use Rattle.word_flow.proofs.Common.{all_rounds, read_names, RoomsApart, []}
use Rattle.word_flow.proofs.Common.{placed_body, op_ceiling, flow_total, and_parts, Bool}
use Rattle.word_flow.proofs.Common.{WIDTH_MAX, Statement, code_cost, HasValues, and_from}
use Rattle.word_flow.proofs.Common.{IsLowered, NameValue, is_among, AllParts, flow_map, all_flow, ℕ}
use Rattle.word_flow.proofs.Common.{IsPlaced, room_for, HaveRows, flow_aps, RoundOf, false}
use Rattle.word_flow.proofs.Common.{chained, IsRound, IsOwned, HasForm, run_all, BodyCmd, Compute}
use Rattle.word_flow.proofs.Common.{Option, nat_le, sum_by, StepOf, Flowed, FlowOf, row_in}
use Rattle.word_flow.proofs.Common.{Extent, IsSlim, IsMade, turn_aps, WordOp, subst, arith, Block, ap}
use Rattle.word_flow.proofs.Common.{zeros, Spots, Slots, Holds, Owner, Marked, true, List, refl, ◌≡◌}
use Rattle.word_flow.proofs.Common.{◌&&◌, Spot, Room, ◌*◌, ◌<◌, ◌≤◌, ◌∷◌, map, sym, ◌∙◌, run}
use Rattle.word_flow.proofs.Common.{most_is, rounds_among, rooms_row, rounds_aps, HasCommands}
use Rattle.loop_ir.specs.FlowTests.{names, counts, nests, runs_safely, is_event_safe}
use Rattle.loop_laws.proofs.Compile.{made_compile}
use Rattle.word_flow.proofs.Answers.{Answers, Answered, answered}
use Rattle.word_flow.proofs.Checks.{Stands, body_holds, held_is}
use Rattle.word_lower.proofs.BodyRules.{slim_is, values_are}
use Rattle.word_lower.proofs.Commands.{has_commands, made_is}
use Rattle.word_flow.proofs.FlowOps.{flow_each, all_widths}
use Rattle.word_flow.proofs.Placing.{Whose, rooms_whose, AllStand, AllDiffer, among, free_of}
use Rattle.word_flow.proofs.Placing.{rows_move, rooms_apart}
use Rattle.word_flow.proofs.Views.{View}
use Rattle.loop_ir.specs.Lowered.{args_width}
use Rattle.loop_ir.specs.Costs as cost

-- each place of its bodies is 0, or in a register that its forms name
abbrev stays : FlowOf Block → Bool
stays f = all_flow (stays_in_registers (λ r. names r f)) f

-- a flow has the form that code is made of
abbrev pub flow_holds : FlowOf Block → Bool
flow_holds f = counts f && (nests 2 f && (stays f
    && (nat_le (code_cost (Flowed f ∷ [])) 256 && nat_le (cost.bodies (Flowed f ∷ [])) 12)))

-- the AP of rounds
in_all : (x : List BodyCmd → ℕ) (a : ℕ) (rs : List (RoundOf Block)) → AllByRecursion
    (λ (r : RoundOf Block). turn_aps r.part ≡ a * x r.part.found) rs
    → rounds_aps rs ≡ a * sum_by (λ (r : RoundOf Block). x r.part.found) rs
in_all x a [] all = omega arith
in_all x a (r ∷ rs) all =
    let p = sum_by-cons (λ (r : RoundOf Block). turn_aps r.part) r rs in
    let s = ap (λ z. a * z) (sum_by-cons (λ (r : RoundOf Block). x r.part.found) r rs) in
    omega (arith, in_all x a rs all.1, p, s, all.0)

-- all rounds take exactly so many commands, of which so many are AP
pub record IsExact (p : WordOp) (steps : List (StepOf Block)) : Type 0 where
  pub total : (n : ℕ) → 0 < n → n ≤ WIDTH_MAX → rounds_cost (all_rounds n steps) ≡ flow_total p n
  pub aps : (n : ℕ) → 0 < n → n ≤ WIDTH_MAX → rounds_aps (all_rounds n steps) ≡ flow_aps p n

-- the loop program of a statement does it, and is exact
pub record IsDone (slots : Slots) (fb fw : ℕ) (target : List ℕ) (second : Option (List ℕ))
    (p : WordOp) (args : List (List ℕ)) (steps : List (StepOf Block)) : Type 0 where
  pub lowered : IsLowered slots fb fw (Compute target second p args) steps
  pub exact : IsExact p steps

-- What is known of an operation's flow: what it does at each width, its AP, and that it takes no more
-- than its ceiling
pub record Operation (p : WordOp) (A : Type 0) (code : A → Marked) (f : FlowOf A) (es : List Extent)
    (known : List Owner) (x : List BodyCmd → ℕ) (weight : ℕ → ℕ) (w : ℕ)
    (Post : ℕ → View → View → Type 0) : Type 1 where
  pub answers : (n : ℕ) → 0 < n → n ≤ WIDTH_MAX → (c : View)
      → Answers A code f es known x n c (flow_total p n) (weight n) (Post n c)
  pub aps : (n : ℕ) → w * weight n ≡ flow_aps p n
  pub cheap : (n : ℕ) → 0 < n → flow_total p n ≤ op_ceiling p n

module _ (slots : Slots) (fb fw : ℕ) (target : List ℕ) (second : Option (List ℕ)) (p : WordOp)
    (args : List (List ℕ)) (placed : IsPlaced slots fb fw (Compute target second p args))
    (ws : List Whose) (stand : AllStand slots fb fw (Compute target second p args) placed ws)
    (differ : AllDiffer ws) (A : Type 0) (code : A → Marked) (f : FlowOf A) (es : List Extent)
    (shape : map (λ (r : Room). r.rows) (rooms_whose ws) ≡ es) (known : List Owner)
    (x : List BodyCmd → ℕ) (weight : ℕ → ℕ) (w : ℕ)
    (holds : (b : A) → body_holds (rooms_whose ws) known x w (code b) ≡ true)
    (sized : flow_holds (flow_map (λ b. placed_body (rooms_whose ws) (code b)) f) ≡ true)
    (Post : ℕ → View → View → Type 0) (o : Operation p A code f es known x weight w Post) where
  abbrev s : Statement
  s = Compute target second p args

  abbrev rooms : List Room
  rooms = rooms_whose ws

  abbrev pub block : A → Block
  block b = placed_body rooms (code b)

  abbrev pub flow : FlowOf Block
  flow = flow_map block f

  abbrev pub steps : List (StepOf Block)
  steps = Flowed flow ∷ []

  abbrev row : ℕ → Spot → Type 0
  row = IsStatementRow slots fb fw s

  apart : (n : ℕ) → RoomsApart n rooms
  apart n = rooms_apart slots fb fw s placed ws stand differ n

  owned : (n : ℕ) (q : Spot) → IsOwned n rooms q → row n q
  owned n q o = among slots fb fw s placed ws stand n q o

  have_rows : HaveRows rooms
  have_rows = rooms_row row rooms (owned 1) (statement_rows slots fb fw s placed 1)

  alone : (n : ℕ) → all_rounds n steps ≡ flow_rounds n flow
  alone n = append-nil (flow_rounds n flow)

  at : (b : A) → Stands rooms known x w (code b)
  at b = held_is rooms known x w (code b) (holds b)

  has : (b : A) → HasCommands (block b)
  has b = has_commands 1 rooms (omega arith) (apart 1) have_rows (code b) (at b).keeps (at b).works

  -- what it does at a width, from every content
  runs : (n : ℕ) → 0 < n → n ≤ WIDTH_MAX → (before : Spots) → Answered n rooms known flow
      (flow_total p n) x (weight n) (Post n (λ a v. before (row_in n (room_for rooms a) v))) before
  runs n some small before = answered n rooms some (apart n) have_rows
      (rows_move slots fb fw s placed ws stand n) es shape known A code x w holds f
      (flow_total p n) (weight n) (Post n (λ a v. before (row_in n (room_for rooms a) v))) before
      (o.answers n some small (λ a v. before (row_in n (room_for rooms a) v)))

  dark : Spots
  dark q = false

  values_all : (b : A) → HasValues row (block b)
  values_all b =
      let v = values_are 1 rooms (omega arith) (apart 1) have_rows (code b) (at b).keeps in
      record {
        reads = λ k lk r. (let h = v.reads k lk r in (h.0, h.1, owned h.0 _ h.2));
        writes = λ j lj r. (let h = v.writes j lj r in (h.0, h.1, owned h.0 _ h.2));
        own = v.own;
      }

  form : HasForm row steps
  form =
      let p = and_parts (counts flow) _ sized in
      let q = and_parts (nests 2 flow) _ p.1 in
      let r = and_parts (stays flow) _ q.1 in
      let z = and_parts (nat_le (code_cost steps) 256) _ r.1 in
      record {
        slim = (
          flow_each A block IsSlim (λ b. slim_is 1 rooms (omega arith) (apart 1) have_rows (code b)
              (at b).keeps (has b)) f,
          tt,
        );
        find = and_from _ true (all_widths (λ n. chained [] (flow_rounds n flow))
            (λ n some small. (runs n some small dark).found)) refl;
        stand = and_from (counts flow && (nests 2 flow && (stays flow
            && runs_safely flow))) true (and_from (counts flow) _ p.0
            (and_from (nests 2 flow) _ q.0 (and_from (stays flow) _ r.0
            (all_widths (λ n. list_all (is_event_safe n) (run n flow zeros).events)
            (λ n some small. (runs n some small dark).safe))))) refl;
        values = (flow_each A block (HasValues row) values_all f, tt);
        rounds = λ n some small. subst (AllByRecursion (IsRound (row n) n)) (sym (append-nil _))
            (rounds_among (IsOwned n rooms) (row n) (owned n) n _ (runs n some small dark).keeps);
        size = most_is (code_cost steps) 256 z.0;
        few = most_is (cost.bodies steps) 12 z.1;
      }

  made : AllParts IsMade steps
  made = (flow_each A block IsMade (λ b. made_is rooms (code b) (at b).works) f, tt)

  -- the commands at a width
  total_is : (n : ℕ) → 0 < n → n ≤ WIDTH_MAX → rounds_cost (all_rounds n steps) ≡ flow_total p n
  total_is n some small = ap rounds_cost (alone n) ∙ (runs n some small dark).paid

  -- the AP at a width
  aps_are : (n : ℕ) → 0 < n → n ≤ WIDTH_MAX → rounds_aps (all_rounds n steps) ≡ flow_aps p n
  aps_are n some small = ap rounds_aps (alone n)
      ∙ in_all x w (flow_rounds n flow) (run_all Block (λ b. turn_aps b ≡ w * x b.found) n flow
      (flow_each A block (λ b. turn_aps b ≡ w * x b.found) (λ b. (at b).counts) f) zeros)
      ∙ ap (λ z. w * z) (runs n some small dark).weighed ∙ o.aps n

  -- it is done and exact, where its rows hold what the targets are to have
  pub done : ((n : ℕ) → args_width slots n args ≡ n)
      → ((n : ℕ) → 0 < n → n ≤ WIDTH_MAX → (held : List ℕ → NameValue) (before : Spots)
      → Answered n rooms known flow (flow_total p n) x (weight n)
      (Post n (λ a v. before (row_in n (room_for rooms a) v))) before
      → ((name : List ℕ) → is_among (read_names s) name ≡ true → Holds n slots held before name)
      → (name : List ℕ) → is_among (written_names s) name ≡ true
      → Holds n slots (after_statement n held s) (after_rounds n (flow_rounds n flow) before) name)
      → IsDone slots fb fw target second p args steps
  done width_is gives =
      let c = made_compile row steps made form in
      record {
        lowered = record {
          well = c.0;
          can = c.1;
          does = λ n some small. record {
            gives = λ held rows h name e. subst (λ rs. Holds n slots (after_statement n held s)
                (after_rounds n rs rows) name) (sym (alone n))
                (gives n some small held rows (runs n some small rows) h name e);
            keeps = λ rows q r out. ap (λ rs. after_rounds n rs rows q) (alone n)
                ∙ (runs n some small rows).rest q r
                (free_of slots fb fw s placed ws stand n q out);
          };
          cheap = λ n some small. (let e = total_is n some small in
              let c = o.cheap n some in let z = ap (op_ceiling p) (width_is n) in
              omega (arith, e, c, z));
        };
        exact = record { total = total_is; aps = aps_are };
      }
