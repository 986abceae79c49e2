-- The loop of a block with its states in rows does the block, within its ceilings.
use Rattle.block_lower.proofs.Common.{◌≡◌, ℕ, zero, suc, ◌+◌, ◌*◌, ◌<◌, ◌≤◌, Bool, true, false}
use Rattle.block_lower.proofs.Common.{List, [], ◌∷◌, ◌++◌, map, length, Option, Some, None, refl}
use Rattle.block_lower.proofs.Common.{sym, ap, ◌∙◌, subst, arith, ◌⊎◌, inl, inr, AllByRecursion}
use Rattle.block_lower.proofs.Common.{list_all, and_from, sum_by-cons, mul-le-mul_left, Kind, Word}
use Rattle.block_lower.proofs.Common.{Bit, State, Block, Visit, Zero, Place, Slot, StepOf, RoundOf}
use Rattle.block_lower.proofs.Common.{round_at, rounds, all_rounds, sub_value, Spot, IsOwn}
use Rattle.block_lower.proofs.Common.{is_state, after_rounds, IsWellFormed, body_cost, turn_cost}
use Rattle.block_lower.proofs.Common.{step_cost, step_bodies, rounds_cost, IsSmall, step_stands}
use Rattle.block_lower.proofs.Common.{IsRound, CanCompile, Slots, IsStatementRow, IsLowered}
use Rattle.block_lower.proofs.Common.{rounds_sum, HasRows}
use Rattle.std.proofs.lemmas.Bool.{or_from}
use Rattle.std.proofs.lemmas.List.{append-nil}
use Rattle.op_text.specs.Scratch.{block_weight, block_ceiling}
use Rattle.loop_ir.specs.Plain.{Block as Body, AllParts}
use Rattle.loop_ir.specs.Plain.StepOf.{Single, Along}
use Rattle.loop_ir.specs.WellFormed.{AreWellFormed}
use Rattle.loop_ir.specs.Costs.{code_cost, bodies}
use Rattle.loop_ir.specs.Limits.{may_stand, StepHasValues}
use Rattle.loop_laws.proofs.Summed.{steps_sum, sum_is}
use Rattle.loop_laws.proofs.NoStates.{has_rows, rows_fit, no_state_sought}
use Rattle.block_lower.specs.Inputs.{block_inputs}
use Rattle.block_lower.specs.Choice.{HasFound, AreFor}
use Rattle.block_lower.specs.Form.{kind_sub, place_of, constant, start, row_steps, IsBlockBody}
use Rattle.block_lower.specs.Form.{IsBlockProgram}
use Rattle.block_lower.proofs.Rows.{slot_or, row_of}
use Rattle.block_lower.proofs.Facts.{Given, IsState, IsNamed, state-named, state-written, found}
use Rattle.block_lower.proofs.Facts.{state-kind, same-place, target, input, target-named, input-at}
use Rattle.block_lower.proofs.Stand.{in_rows, named-space, row-space, stand-had, stand-own}
use Rattle.block_lower.proofs.Visits.{DoesAt, does-at, row_place, row-turn, row-visits, Stands}
use Rattle.block_lower.proofs.Visits.{writes-long, reads-long, write-place, read-place}
use Rattle.block_lower.proofs.Starts.{started, starts-do, state-at, begins, AreStates, head-state}
use Rattle.block_lower.proofs.Starts.{tail-states}
use Rattle.block_lower.proofs.Ends.{does-block}
use Rattle.block_lower.proofs.Carried.{found-most, has-commands, is-found}
use Rattle.block_lower.proofs.Bodies.{HasSub, all-subs, body-small, turn-round}
use Rattle.block_lower.proofs.Bodies.{turn-well, lone-well, lone-small, lone-turn}
use Rattle.block_lower.proofs.Constants.{constant-commands}

-- the places of names
place-space : (down : Bool) (o : Option Slot) → (place_of down o).space ≡ (slot_or o).space
place-space down None = refl
place-space down (Some x) = refl

place-which : (down : Bool) (o : Option Slot) → (place_of down o).which ≡ (slot_or o).which
place-which down None = refl
place-which down (Some x) = refl

kind-of : (down : Bool) (k : Kind) → (kind_sub down k ≡ Zero) ⊎ (kind_sub down k ≡ kind_sub down Word)
kind-of down Word = inr refl
kind-of down Bit = inl refl

pub place-sub : (down : Bool) (o : Option Slot)
    → ((place_of down o).sub ≡ Zero) ⊎ ((place_of down o).sub ≡ kind_sub down Word)
place-sub down None = inl refl
place-sub down (Some x) = kind-of down x.kind

low-sub : (down : Bool) → sub_value 1 0 [] (kind_sub down Word) ≡ 0
low-sub true = refl
low-sub false = refl

word-stands : (down : Bool) → may_stand true (kind_sub down Word) ≡ true
word-stands true = refl
word-stands false = refl

-- the body of a start
module _ (v : Bool) (p : Place) (e : p.sub ≡ Zero) where
  lone-stands : step_stands (Single (constant v p)) ≡ true
  lone-stands = rw e refl

rounds-all : (P : RoundOf Body → Type 0) (body : Body) (n count i : ℕ) → i + count ≡ n
    → ((j : ℕ) → j < n → P (round_at body j))
    → AllByRecursion P (rounds body i count)
rounds-all P body n zero i e h = tt
rounds-all P body n (suc count) i e h = (
  h i (omega (arith, e)),
  rounds-all P body n count (i + 1) (omega (arith, e)) h,
)

-- no more than four commands for a node and three for an output at each position are within the
-- ceiling
pub within-ceiling : {slots : Slots} {b : Block} {body : Body} → IsBlockBody slots b body
    → (n c : ℕ) → c ≤ n * (4 * length body.graph.nodes + 3 * length b.assigns) + length b.states
    → c ≤ block_ceiling b n
within-ceiling {slots = slots} {b = b} {body = body} is n c l =
    let w = is.nodes in
    let k : 4 * length body.graph.nodes + 3 * length b.assigns
    ≤ 4 * block_weight b + 3 * length b.assigns = omega (arith, w) in
    let e = mul-le-mul_left n k in
    omega (arith, l, e)

module _ {slots : Slots} {fb fw : ℕ} {b : Block} (g : Given slots fb fw b) where
  pub one-value : (x y : List ℕ) → IsNamed b x → IsNamed b y
      → (row_place slots b x).space ≡ (row_place slots b y).space
      → (row_place slots b x).which ≡ (row_place slots b y).which → x ≡ y
  one-value x y ex ey s w = same-place g x y ex ey
      (sym (place-space b.down (slots x)) ∙ s ∙ place-space b.down (slots y))
      (sym (place-which b.down (slots x)) ∙ w ∙ place-which b.down (slots y))

  pub name-row : (x : List ℕ) → IsNamed b x → is_state (row_place slots b x).space ≡ false
  name-row x e = ap is_state (place-space b.down (slots x)) ∙ named-space g x e

  state-sub : (x : List ℕ) → IsState b x → (row_place slots b x).sub ≡ Zero
  state-sub x e = ap (λ o. (place_of b.down o).sub) (found g x (state-named b x e))
      ∙ ap (kind_sub b.down) (state-kind g x e)

  module _ {body : Body} (is : IsBlockBody slots b body)
      (most : length (block_inputs b) ≤ 80) where
    abbrev at : List ℕ → Place
    at = row_place slots b

    abbrev may_have : ℕ → Spot → Type 0
    may_have = IsStatementRow slots fb fw (Visit b)

    does : DoesAt slots b at at body
    does = does-at is at at body.reads body.writes body.found is.reads is.writes

    subs : HasSub at (kind_sub b.down Word)
    subs x = place-sub b.down (slots x)

    body-rows : HasRows body
    body-rows = has_rows body
        (λ k l. let m : k < length (block_inputs b) = omega (arith, l, reads-long does) in
        ap (λ (p : Place). is_state p.space) (read-place does k m)
        ∙ name-row (input b k) (input-at b k m))
        (λ j l. let m : j < length b.assigns = omega (arith, l, writes-long does) in
        ap (λ (p : Place). is_state p.space) (write-place does j m)
        ∙ name-row (target b j) (target-named b j m))

    body-well : IsWellFormed body
    body-well = turn-well g (row-turn is 1 0) subs subs (low-sub b.down)

    -- there are commands for it
    pub body-found : AreFor body.reads body.writes body.graph body.outs body.graph body.outs
        body.found → HasFound body.reads body.writes body.graph body.outs body.found
    body-found =
        let i = is.inputs in
        let m = is.as_many in
        let k = is.nodes in
        let a = g.meets.assigns in
        let w = g.meets.weight in
        is-found body body-well (omega (arith, i, most)) (omega (arith, m, a))
        (omega (arith, m, a, k, w))

    module _ (for : HasFound body.reads body.writes body.graph body.outs body.found) where
      -- what is kept by the starts of so many states, and the body at each position
      record Kept (count : ℕ) (steps : List (StepOf Body)) : Type 0 where
        well : AreWellFormed steps
        small : AllParts IsSmall steps
        rows : AllParts HasRows steps
        stand : list_all step_stands steps ≡ true
        values : AllByRecursion (StepHasValues may_have) steps
        rounds : (n : ℕ) → 0 < n → AllByRecursion (IsRound (may_have n) n) (all_rounds n steps)
        size : code_cost steps ≡ 3 * count + (body_cost body + 15)
        few : bodies steps ≡ count + 1
        sums : (f : Body → ℕ) → ((v : Bool) (p : Place) → f (constant v p) ≡ 1) → (n : ℕ)
            → steps_sum f n steps ≡ count + n * f body

      last : Kept 0 (Along body ∷ [])
      last =
          let written = is.as_many ∙ sym (writes-long does) in
          record {
            well = (body-well, tt);
            small = (
              body-small does subs subs g body-well
                  (rows_fit body body-rows written)
                  (has-commands body body-rows is.graph written for) most,
              tt,
            );
            rows = (body-rows, tt);
            stand = and_from (step_stands (Along body)) true
                (all-subs does subs subs (may_stand true) refl (word-stands b.down)) refl;
            values = (tt, tt);
            rounds = λ n lt. subst (AllByRecursion (IsRound (may_have n) n))
                (sym (append-nil (rounds body 0 n)))
                (rounds-all (IsRound (may_have n) n) body n n 0 (omega arith) (λ j l.
                turn-round g (row-turn is n j) l));
            size = sum_by-cons step_cost (Along body) [] ∙ omega arith;
            few = sum_by-cons step_bodies (Along body) [];
            sums = λ f one n. omega arith;
          }

      more : (s : State) (count : ℕ) (steps : List (StepOf Body)) → IsState b s.name
          → Kept count steps → Kept (suc count) (start slots b.down s ∷ steps)
      more s count steps e k =
          let p = row_place slots b s.name in
          let row = name-row s.name (state-named b s.name e) in
          let zero = state-sub s.name e in
          record {
            well = (lone-well s.start p _, k.well);
            small = (lone-small s.start p _ (constant-commands s.start p row), k.small);
            rows = (or_from (is_state p.space) false row refl, k.rows);
            stand = and_from (step_stands (start slots b.down s)) _ (lone-stands s.start p zero)
                k.stand;
            values = (tt, k.values);
            rounds = λ n lt. (
              lone-turn s.start p _ (may_have n) n []
                  (λ r. subst (may_have n) (sym (state-at g n s.name e)) (stand-had g (in_rows b) n 0
                  s.name lt (state-named b s.name e)
                  (row-space g n (row_of 0 (slot_or (slots s.name)).kind) s.name
                  (state-named b s.name e))))
                  (subst (λ (q : Spot). IsOwn q.space) (sym (state-at g n s.name e))
                  (stand-own g (in_rows b) n 0 s.name (state-written b s.name e))),
              k.rounds n lt,
            );
            size = let m = sum_by-cons step_cost (start slots b.down s) steps in
                let h = k.size in omega (arith, m, h);
            few = let m = sum_by-cons step_bodies (start slots b.down s) steps in let h = k.few in
                omega (arith, m, h);
            sums = λ f one n. let h = k.sums f one n in let c = one s.start p in omega (arith, h, c);
          }

      all-kept : (ss : List State) → AreStates b ss
          → Kept (length ss) (map (start slots b.down) ss ++ Along body ∷ [])
      all-kept [] all = last
      all-kept (s ∷ ss) all = more s (length ss) (map (start slots b.down) ss ++ Along body ∷ [])
          (head-state b s ss all) (all-kept ss (tail-states b s ss all))

      abbrev steps : List (StepOf Body)
      steps = row_steps slots b.down b.states body

      kept : Kept (length b.states) steps
      kept = all-kept b.states (λ x e. e)

      -- what the rounds take
      pub row-turns : (n : ℕ)
          → rounds_cost (all_rounds n steps) ≡ length b.states + n * turn_cost body
      row-turns n = sum_is turn_cost n steps ∙ kept.sums turn_cost (λ v p. refl) n

      abbrev bound : ℕ → ℕ
      bound n = n * (4 * length body.graph.nodes + 3 * length b.assigns) + length b.states

      row-within : (f : Body → ℕ) → ((v : Bool) (p : Place) → f (constant v p) ≡ 1)
          → f body ≤ 4 * length body.graph.nodes + 3 * length b.assigns → (n : ℕ)
          → rounds_sum f (all_rounds n steps) ≤ bound n
      row-within f one l n =
          let s = sum_is f n steps ∙ kept.sums f one n in
          let e = mul-le-mul_left n l in
          omega (arith, s, e)

      row-cost : (n : ℕ) → rounds_cost (all_rounds n steps) ≤ bound n
      row-cost = let m = is.as_many in row-within turn_cost (λ v p. refl)
          (let t = found-most body for in omega (arith, t, m))

      can : CanCompile may_have steps
      can = record {
        small = kept.small;
        find = no_state_sought [] steps kept.rows;
        stand = kept.stand;
        values = kept.values;
        rounds = λ n lt wide. kept.rounds n lt;
        size = let c = kept.size in let s = g.meets.states in let m = is.as_many in
            let a = g.meets.assigns in let w = g.meets.weight in let k = is.nodes in
            omega (arith, c, s, m, a, w, k);
        few = let c = kept.few in let s = g.meets.states in omega (arith, c, s);
      }

      pub row-lowered : IsLowered slots fb fw (Visit b) steps
      row-lowered = record {
        well = kept.well;
        can = can;
        does = λ n lt wide. does-block g n steps (λ old bits all.
            let first = started (in_rows b) slots n b.states bits in
            subst (Stands slots (in_rows b) n old bits n _) (sym (starts-do g n b.states (λ x e. e)
            (Along body ∷ []) bits
            ∙ ap (λ rs. after_rounds n rs first) (append-nil (rounds body 0 n))))
            (row-visits g is all n 0 (omega arith) _ first (begins g n (in_rows b) lt old bits)));
        cheap = λ n lt wide. within-ceiling is n (rounds_cost (all_rounds n steps)) (row-cost n);
      }

      pub row-program : IsBlockProgram slots b steps
      row-program = record {
        body = body;
        is = is;
        form = inl (for, refl);
        cost = λ n lt. row-cost n;
      }
