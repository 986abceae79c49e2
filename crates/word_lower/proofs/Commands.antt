-- A test of a body, after which its commands do it wherever its rows lie.
use Rattle.word_lower.proofs.Common.{◌≡◌, ◌≢◌, ℕ, zero, suc, ◌+◌, ◌^◌, ◌<◌, ◌≤◌, Bool, true, false}
use Rattle.word_lower.proofs.Common.{cond, List, [], ◌∷◌, map, length, Option, Some, None, refl}
use Rattle.word_lower.proofs.Common.{sym, ap, ◌∙◌, subst, arith, ◌&&◌, ◌==◌, nat_le, if◌then◌else◌}
use Rattle.word_lower.proofs.Common.{and_parts, eqb-true, Lit, IsGraph, lit_at, Place, StepOf}
use Rattle.word_lower.proofs.Common.{AllParts, Single, Along, nth_place, is_state, HasCommands}
use Rattle.word_lower.proofs.Common.{Room, room_for, Owner, same_owner, Mark, Marked, placed}
use Rattle.word_lower.proofs.Common.{placed_body, placed_steps, RoomsApart, steps_fit, IsMade}
use Rattle.word_lower.proofs.Common.{mark_at, HaveRows, write_at, writes_once, alone_sub, most_is}
use Rattle.word_lower.proofs.Common.{nth_placed, placed_same}
use Rattle.std.specs.List.{AllByRecursion, list_all}
use Rattle.std.proofs.lemmas.Bool.{and_from}
use Rattle.dram_model.specs.declared.address.Cell.TheVariants.{D}
use Rattle.dram_model.specs.declared.address.Line.{Line}
use Rattle.mig_graph.specs.Graph.{size_of}
use Rattle.mig_graph.specs.Outputs.{AreNamed}
use Rattle.row_alloc.specs.declared.body.Held.{Held}
use Rattle.row_alloc.specs.declared.body.OutRow.{OutRow}
use Rattle.row_alloc.specs.Body.{FitBody}
use Rattle.row_alloc.specs.Held.{DoesHeld, IsHeldChecked, IsLeft, reads_rows, symbols_held}
use Rattle.row_alloc.specs.Layouts.{layout}
use Rattle.row_alloc.specs.Legal.{are_legal}
use Rattle.row_alloc.specs.Numbering.{own_output}
use Rattle.row_alloc.specs.Rows.{out_at}
use Rattle.row_alloc.specs.Symbolic.{Symbols, sym_read}
use Rattle.row_alloc.proofs.Literals.{is_literal, is-literal}
use Rattle.row_alloc.proofs.HeldChecked.{held-does}
use Rattle.loop_ir.specs.Plain.StepOf.{Flowed}
use Rattle.loop_ir.specs.Outputs.{AreRows}
use Rattle.loop_ir.specs.States.{row_count, enters, leaves}
use Rattle.loop_ir.specs.Costs.{plain_cost}
use Rattle.loop_ir.proofs.Outs.{one-rows}
use Rattle.loop_laws.specs.Rooms.{all_fit, body_fits}
use Rattle.loop_laws.proofs.Alike.{state_like, enters_like, leaves_like, plain_like}
use Rattle.loop_laws.proofs.Good.{none_at}
use Rattle.word_lower.specs.Shapes.{are_own, are_below}
use Rattle.word_lower.proofs.Own.{own_graph}
use Rattle.word_lower.proofs.LikeTemplates.{all_below}
use Rattle.word_lower.proofs.BodyRules.{all_there, OwnersFit, owner_true, one_owner, keeps}
use Rattle.word_lower.proofs.BodyRules.{kept_fit}

-- one further on
abbrev further : Option ℕ → Option ℕ
further None = None
further (Some k) = Some (suc k)

-- the input in whose row an output of this owner stands: the first read that has the owner
abbrev pub same_in : Owner → List Mark → Option ℕ
same_in o [] = None
same_in o (m ∷ ms) = if same_owner o m.owner then Some 0 else further (same_in o ms)

-- the row of an output
abbrev row_for : List Mark → Mark → Lit → OutRow
row_for reads m l = record { lit = l; same = same_in m.owner reads }

-- the outputs with rows, up to the first state
abbrev pub out_rows : List Mark → List Mark → List Lit → List OutRow
out_rows reads [] ls = []
out_rows reads (m ∷ ms) [] = []
out_rows reads (m ∷ ms) (l ∷ ls) = if is_state (room_for [] m.owner).space then []
    else row_for reads m l ∷ out_rows reads ms ls

-- so it is of a body
abbrev pub outs_of : Marked → List OutRow
outs_of b = out_rows b.reads b.writes b.outs

-- the states that it finds in cells
abbrev pub enters_of : Marked → List Held
enters_of b = enters 0 (map (placed []) b.reads)

-- the states that it leaves in cells
abbrev pub leaves_of : Marked → List Held
leaves_of b = leaves (map (placed []) b.writes) b.outs

-- the rows of these outputs, from that of this number on, end with their literals
abbrev end_right : Symbols → ℕ → List OutRow → Bool
end_right sy j [] = true
end_right sy j (o ∷ os) = is_literal (sy (D (own_output o.same j))) o.lit && end_right sy (j + 1) os

-- the state stands in its cells
abbrev is_left : Symbols → Held → Bool
is_left sy h = list_all (λ line. is_literal (sym_read sy line) h.lit) (layout h.layout)

-- its reads are the graph's inputs, its writes take the outputs, and there are few of them
abbrev has_numbers : Marked → Bool
has_numbers b = length b.reads == b.graph.inputs && (length b.outs == length b.writes
    && (nat_le b.graph.inputs 80 && (nat_le (length b.graph.nodes) 24
    && nat_le (length (outs_of b)) 8)))

-- its graph is as `Mig` makes them, and its outputs name nodes
abbrev is_own_body : Marked → Bool
is_own_body b = are_own (b.graph.inputs + 1) b.graph.nodes && are_below (size_of b.graph) b.outs

-- the commands are legal, and end right by the symbolic run
abbrev ends_well : Marked → Bool
ends_well b = let sy = symbols_held b.graph (outs_of b) (enters_of b) b.found in
    are_legal b.graph.inputs (length (outs_of b)) b.found
    && (list_all (reads_rows (enters_of b)) b.found && (end_right sy 0 (outs_of b)
    && list_all (is_left sy) (leaves_of b)))

-- the commands do the body, and are few
abbrev pub does_body : Marked → Bool
does_body b = has_numbers b && (is_own_body b && (ends_well b
    && nat_le (length b.found) (plain_cost (placed_body [] b))))

-- the commands do the body, by the symbolic run, and are few
pub record Works (b : Marked) : Type 0 where
  pub reads : length b.reads ≡ b.graph.inputs
  pub writes : length b.outs ≡ length b.writes
  pub inputs : b.graph.inputs ≤ 80
  pub nodes : length b.graph.nodes ≤ 24
  pub outputs : length (outs_of b) ≤ 8
  pub graph : IsGraph b.graph.inputs b.graph.nodes
  pub named : AreNamed b.graph b.outs
  pub checked : IsHeldChecked b.graph (outs_of b) (enters_of b) (leaves_of b) b.found
  pub few : length b.found ≤ plain_cost (placed_body [] b)

ends : (sy : Symbols) (j : ℕ) (os : List OutRow) → end_right sy j os ≡ true → (k : ℕ)
    → k < length os → sy (D (own_output (out_at os k).same (j + k))) ≡ Some (out_at os k).lit
ends sy j [] h k lt = absurd (omega (arith, lt))
ends sy j (o ∷ os) h zero lt =
    let e : j ≡ j + 0 = omega arith in
    subst (λ i. sy (D (own_output o.same i)) ≡ Some o.lit) e
    (is-literal (sy (D (own_output o.same j))) o.lit (grind arith))
ends sy j (o ∷ os) h (suc k) lt =
    let e : j + 1 + k ≡ j + suc k = omega arith in
    subst (λ i. sy (D (own_output (out_at os k).same i)) ≡ Some (out_at os k).lit) e
    (ends sy (j + 1) os (grind arith) k (omega (arith, lt)))

all_are : {A : Type 0} (f : A → Bool) (P : A → Type 0) → ((x : A) → f x ≡ true → P x)
    → (xs : List A) → list_all f xs ≡ true → AllByRecursion P xs
all_are f P h [] e = tt
all_are f P h (x ∷ xs) e = (h x (grind arith), all_are f P h xs (grind arith))

checks : (b : Marked) → ends_well b ≡ true
    → IsHeldChecked b.graph (outs_of b) (enters_of b) (leaves_of b) b.found
checks b h =
    let sy = symbols_held b.graph (outs_of b) (enters_of b) b.found in
    record {
      legal = grind arith;
      unread = grind arith;
      ends = λ k lt. (let z : 0 + k ≡ k = omega arith in
          subst (λ i. sy (D (own_output (out_at (outs_of b) k).same i))
          ≡ Some (out_at (outs_of b) k).lit) z (ends sy 0 (outs_of b) (grind arith) k lt));
      leaves = all_are (is_left sy) (IsLeft sy) (λ h. all_are _ _ (λ (line : Line).
          is-literal (sym_read sy line) h.lit) (layout h.layout)) (leaves_of b) (grind arith);
    }

pub works_is : (b : Marked) → does_body b ≡ true → Works b
works_is b h =
    let g = b.graph in
    let p = and_parts (has_numbers b) _ h in
    let q = and_parts (is_own_body b) _ p.1 in
    let r = and_parts (ends_well b) _ q.1 in
    let reads = and_parts (length b.reads == g.inputs) _ p.0 in
    let writes = and_parts (length b.outs == length b.writes) _ reads.1 in
    let few = and_parts (nat_le g.inputs 80) _ writes.1 in
    let nodes = and_parts (nat_le (length g.nodes) 24) _ few.1 in
    let own = and_parts (are_own (g.inputs + 1) g.nodes) _ q.0 in
    let inputs = most_is g.inputs 80 few.0 in
    let most = most_is (length g.nodes) 24 nodes.0 in
    let power : 2 ^ 32 ≡ 4294967296 = refl in
    record {
      reads = eqb-true (length b.reads) g.inputs reads.0;
      writes = eqb-true (length b.outs) (length b.writes) writes.0;
      inputs = inputs;
      nodes = most;
      outputs = most_is (length (outs_of b)) 8 nodes.1;
      graph = own_graph g.inputs g.nodes (omega (arith, inputs, most, power)) own.0;
      named = all_below (size_of g) b.outs own.1;
      checked = checks b r.0;
      few = most_is (length b.found) (plain_cost (placed_body [] b)) r.1;
    }

pub made_is : (rooms : List Room) (b : Marked) → Works b → IsMade (placed_body rooms b)
made_is rooms b works = record { graph = works.graph; named = works.named }

-- what is known of the input in whose row an output stands
record IsSame (o : Owner) (ms : List Mark) (same : Option ℕ) : Type 0 where
  found : (k : ℕ) → same ≡ Some k → (k < length ms) × (o ≡ (mark_at ms k).owner)
  first : (i k : ℕ) → same ≡ Some k → i < k → o ≢ (mark_at ms i).owner
  none : same ≡ None → (k : ℕ) → k < length ms → o ≢ (mark_at ms k).owner

same_here : (o : Owner) (m : Mark) (ms : List Mark) → o ≡ m.owner → IsSame o (m ∷ ms) (Some 0)
same_here o m ms e = record {
  found = λ k h. (let z : 0 ≡ k = cc in
      subst (λ k. (k < length (m ∷ ms)) × (o ≡ (mark_at (m ∷ ms) k).owner)) z (omega arith, e));
  first = λ i k h lt. (let z : 0 ≡ k = cc in absurd (omega (arith, z, lt)));
  none = λ h. absurd (cc);
}

same_after : (o : Owner) (m : Mark) (ms : List Mark) (same : Option ℕ) → o ≢ m.owner
    → IsSame o ms same → IsSame o (m ∷ ms) (further same)
same_after o m ms None ne is = record {
  found = λ k h. absurd (cc);
  first = λ i k h. absurd (cc);
  none = λ h. elim [ zero ↦ λ lt. ne | suc k ↦ λ lt. is.none refl k (omega (arith, lt)) ];
}
same_after o m ms (Some j) ne is = record {
  found = λ k h. (let z : suc j ≡ k = cc in
      let f = is.found j refl in
      subst (λ k. (k < length (m ∷ ms)) × (o ≡ (mark_at (m ∷ ms) k).owner)) z
      (omega (arith, f.0), f.1));
  first = elim [
    | zero ↦ λ k h lt. ne
    | suc i ↦ λ k h lt. (let z : suc j ≡ k = cc in is.first i j refl (omega (arith, z, lt)))
  ];
  none = λ h. absurd (cc);
}

other : (o : Owner) (m : Mark) → same_owner o m.owner ≡ false → o ≢ m.owner
other o m e = none_at o (m ∷ []) 0 (rw e refl) (omega arith)

same_is : (o : Owner) (ms : List Mark) → IsSame o ms (same_in o ms)
same_is o [] = record {
  found = λ k h. absurd (cc);
  first = λ i k h. absurd (cc);
  none = λ h k lt. absurd (omega (arith, lt));
}
same_is o (m ∷ ms) = by (same_owner o m.owner) refl (same_is o ms)
  where
    by : (b : Bool) → same_owner o m.owner ≡ b → IsSame o ms (same_in o ms)
        → IsSame o (m ∷ ms) (cond b (Some 0) (further (same_in o ms)))
    by true e more = same_here o m ms (owner_true o m.owner e)
    by false e more = same_after o m ms (same_in o ms) (other o m e) more

-- what an output's row is made of
record RowAt (reads ms : List Mark) (ls : List Lit) (j : ℕ) (o : OutRow) : Type 0 where
  there : j < length ms
  lit : o.lit ≡ lit_at ls j
  same : o.same ≡ same_in (mark_at ms j).owner reads

row_at : (reads ms : List Mark) (ls : List Lit) (j : ℕ) → j < length (out_rows reads ms ls)
    → RowAt reads ms ls j (out_at (out_rows reads ms ls) j)
row_at reads [] ls j lt = absurd (omega (arith, lt))
row_at reads (m ∷ ms) [] j lt = absurd (omega (arith, lt))
row_at reads (m ∷ ms) (l ∷ ls) j lt = by (is_state (room_for [] m.owner).space) j lt
    (row_at reads ms ls)
  where
    by : (b : Bool) (j : ℕ) → j < length (cond b [] (row_for reads m l ∷ out_rows reads ms ls))
        → ((i : ℕ) → i < length (out_rows reads ms ls)
        → RowAt reads ms ls i (out_at (out_rows reads ms ls) i)) → RowAt reads (m ∷ ms) (l ∷ ls) j
        (out_at (cond b [] (row_for reads m l ∷ out_rows reads ms ls)) j)
    by true j lt more = absurd (omega (arith, lt))
    by false zero lt more = record { there = omega arith; lit = refl; same = refl }
    by false (suc j) lt more = let r = more j (omega (arith, lt)) in
        record { there = omega (arith, r.there); lit = r.lit; same = r.same }

-- there are as many rows of outputs as writes with rows
row_number : (rooms : List Room) → HaveRows rooms → (reads ms : List Mark) (ls : List Lit)
    → length ls ≡ length ms
    → length (out_rows reads ms ls) ≡ row_count (map (placed rooms) ms)
row_number rooms rows reads [] ls e = refl
row_number rooms rows reads (m ∷ ms) [] e = absurd (omega (arith, e))
row_number rooms rows reads (m ∷ ms) (l ∷ ls) e = rw (state_like rooms rows m.owner)
    (by (is_state (room_for [] m.owner).space) (row_number rooms rows reads ms ls (omega (arith, e))))
  where
    by : (b : Bool) → length (out_rows reads ms ls) ≡ row_count (map (placed rooms) ms)
        → length (cond b [] (row_for reads m l ∷ out_rows reads ms ls))
        ≡ cond b 0 (suc (row_count (map (placed rooms) ms)))
    by true h = refl
    by false h = ap suc h

module _ (n : ℕ) (rooms : List Room) (some : 0 < n) (are : RoomsApart n rooms)
    (rows : HaveRows rooms) (b : Marked) (fit : OwnersFit rooms b) (works : Works b) where
  abbrev os : List OutRow
  os = outs_of b

  row : (j : ℕ) → j < length os → RowAt b.reads b.writes b.outs j (out_at os j)
  row = row_at b.reads b.writes b.outs

  same : (j : ℕ) → j < length os
      → IsSame (mark_at b.writes j).owner b.reads (out_at os j).same
  same j lt = subst (IsSame (mark_at b.writes j).owner b.reads) (sym (row j lt).same)
      (same_is (mark_at b.writes j).owner b.reads)

  -- a place that stands where an output is written has its owner
  meets : (ms : List Mark) → all_there rooms ms ≡ true → (j k : ℕ) → j < length b.writes
      → k < length ms → nth_place (map (placed rooms) ms) k
      ≡ nth_place (map (placed rooms) b.writes) j
      → (mark_at b.writes j).owner ≡ (mark_at ms k).owner
  meets ms t j k lj lk e = one_owner n rooms some are rows b fit ms t j k lj lk
      (ap (λ (p : Place). p.space) (sym e), ap (λ (p : Place). p.which) (sym e))

  -- a read that has the owner of an output is at the place where that is written
  here : (j k : ℕ) → j < length b.writes → k < length b.reads
      → (mark_at b.writes j).owner ≡ (mark_at b.reads k).owner
      → nth_place (map (placed rooms) b.reads) k ≡ nth_place (map (placed rooms) b.writes) j
  here j k lj lk o = nth_placed rooms b.reads k lk
      ∙ placed_same rooms (mark_at b.reads k) (mark_at b.writes j) (sym o)
      (sym (alone_sub (mark_at b.writes j) b.reads k
      (write_at rooms b.reads b.writes j fit.fit lj).alone lk o))
      ∙ sym (nth_placed rooms b.writes j lj)

  rows_are : AreRows (map (placed rooms) b.reads) (map (placed rooms) b.writes) b.graph.inputs
      b.outs (row_count (map (placed rooms) b.writes)) os
  rows_are = record {
    size = row_number rooms rows b.reads b.writes b.outs works.writes;
    lits = λ j lt. (row j lt).lit;
    found = λ j k lt e.
        (let s = (same j lt).found k e in
        (omega (arith, s.0, works.reads), here j k (row j lt).there s.0 s.1));
    first = λ i j k lt e l f.
        (let s = (same j lt).found k e in
        (same j lt).first i k e l
        (meets b.reads fit.reads j i (row j lt).there (omega (arith, l, s.0)) f));
    none = λ j lt e k lk f.
        (let l : k < length b.reads = omega (arith, lk, works.reads) in
        (same j lt).none e k l (meets b.reads fit.reads j k (row j lt).there l f));
  }

  fits : FitBody b.graph os
  fits = record {
    inputs = works.inputs;
    outputs = works.outputs;
    rows = omega (arith, works.nodes, works.outputs);
    named = λ j lt. subst (λ (l : Lit). l.node < size_of b.graph) (sym (row j lt).lit)
        (works.named j (omega (arith, (row j lt).there, works.writes)));
    same = λ j k lt e. (rows_are.found j k lt e).0;
    once = λ i j k li lj e f. writes_once rooms b.reads b.writes i j fit.fit (row i li).there
        (row j lj).there (meets b.writes fit.writes i j (row i li).there (row j lj).there
        (sym (rows_are.found j k lj f).1 ∙ (rows_are.found i k li e).1));
  }

  pub commands_are : HasCommands (placed_body rooms b)
  commands_are =
      let g = b.graph in
      record {
        does = λ outs is.
            let e : outs ≡ os = one-rows (map (placed rooms) b.reads)
            (map (placed rooms) b.writes) g.inputs b.outs
            (row_count (map (placed rooms) b.writes)) outs os is rows_are in
            subst (λ os. DoesHeld g os (enters 0 (map (placed rooms) b.reads))
            (leaves (map (placed rooms) b.writes) b.outs) b.found) (sym e)
            (subst (λ hs. DoesHeld g os hs (leaves (map (placed rooms) b.writes) b.outs) b.found)
            (sym (enters_like rooms rows 0 b.reads))
            (subst (λ hs. DoesHeld g os (enters_of b) hs b.found)
            (sym (leaves_like rooms rows b.writes b.outs))
            (held-does g os (enters_of b) (leaves_of b) b.found works.graph fits works.checked)));
        few = subst (λ x. length b.found ≤ x) (sym (plain_like rooms rows b)) works.few;
      }

-- so it is where the test of a body's owners and numbers holds
pub has_commands : (n : ℕ) (rooms : List Room) → 0 < n → RoomsApart n rooms → HaveRows rooms
    → (b : Marked) → keeps rooms b ≡ true → Works b → HasCommands (placed_body rooms b)
has_commands n rooms some are rows b fit works =
    commands_are n rooms some are rows b (kept_fit rooms b fit) works

-- the commands of a loop program's bodies do them: none with a flow is tested so
abbrev pub steps_do : List (StepOf Marked) → Bool
steps_do [] = true
steps_do (Single b ∷ ss) = does_body b && steps_do ss
steps_do (Along b ∷ ss) = does_body b && steps_do ss
steps_do (Flowed f ∷ ss) = false

there_is : (in_loop : Bool) (rooms : List Room) (ms : List Mark) → all_fit in_loop rooms ms ≡ true
    → all_there rooms ms ≡ true
there_is in_loop rooms [] e = refl
there_is in_loop rooms (m ∷ ms) e = and_from _ _ (grind arith)
    (there_is in_loop rooms ms (grind arith))

owners_fit : (in_loop : Bool) (rooms : List Room) (b : Marked) → body_fits in_loop rooms b ≡ true
    → OwnersFit rooms b
owners_fit in_loop rooms b e = record {
  reads = there_is in_loop rooms b.reads (grind arith);
  writes = there_is in_loop rooms b.writes (grind arith);
  fit = grind arith;
}

-- the tests of owners and of commands are enough for a loop program's commands
module _ (n : ℕ) (rooms : List Room) (some : 0 < n) (are : RoomsApart n rooms)
    (rows : HaveRows rooms) where
  body_has : (in_loop : Bool) (b : Marked) → body_fits in_loop rooms b ≡ true
      → does_body b ≡ true → HasCommands (placed_body rooms b)
  body_has in_loop b e h = commands_are n rooms some are rows b (owners_fit in_loop rooms b e)
      (works_is b h)

  pub steps_have : (ss : List (StepOf Marked)) → steps_fit rooms ss ≡ true → steps_do ss ≡ true
      → AllParts HasCommands (placed_steps rooms ss)
  steps_have [] e h = tt
  steps_have (Single b ∷ ss) e h =
      let x = and_parts (body_fits false rooms b) _ e in
      let y = and_parts (does_body b) _ h in
      (body_has false b x.0 y.0, steps_have ss x.1 y.1)
  steps_have (Along b ∷ ss) e h =
      let x = and_parts (body_fits true rooms b) _ e in
      let y = and_parts (does_body b) _ h in
      (body_has true b x.0 y.0, steps_have ss x.1 y.1)
  steps_have (Flowed f ∷ ss) e h = absurd cc
