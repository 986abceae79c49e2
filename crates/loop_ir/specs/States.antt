-- States in cells: which of a body's places stand in them at entry and at exit.
use Rattle.std.specs.Prelude.{◌≡◌, ℕ, suc, ◌+◌, ◌<◌, ◌≤◌, Bool, true, false, List, [], ◌∷◌, ◌++◌}
use Rattle.std.specs.Prelude.{length, if◌then◌else◌}
use Rattle.std.specs.List.{list_any}
use Rattle.mig_graph.specs.declared.Lit.{Lit}
use Rattle.row_alloc.specs.declared.body.Held.{Held}
use Rattle.loop_ir.specs.declared.ir.Place.{Place}
use Rattle.loop_ir.specs.Plain.{Block}
use Rattle.loop_ir.specs.Spots.{nth_place, is_state}

-- some place of the body stands in cells
abbrev pub has_states : Block → Bool
has_states b = list_any (λ p. is_state p.space) (b.reads ++ b.writes)

-- how many places come before the first state
abbrev pub row_count : List Place → ℕ
row_count [] = 0
row_count (p ∷ ps) = if is_state p.space then 0 else suc (row_count ps)

-- the places up to the first state have rows, and all from there on are states
pub record RowsFirst (ps : List Place) : Type 0 where
  pub row : (k : ℕ) → k < row_count ps → is_state (nth_place ps k).space ≡ false
  pub state : (k : ℕ) → row_count ps ≤ k → k < length ps → is_state (nth_place ps k).space ≡ true

-- the inputs from k on that a body finds in cells
abbrev pub enters : ℕ → List Place → List Held
enters k [] = []
enters k (p ∷ ps) = if is_state p.space
    then record { lit = record { node = k + 1; inverted = false }; layout = p.which }
    ∷ enters (k + 1) ps else enters (k + 1) ps

-- the outputs that it leaves in cells
abbrev pub leaves : List Place → List Lit → List Held
leaves [] ls = []
leaves (p ∷ ps) [] = []
leaves (p ∷ ps) (l ∷ ls) = if is_state p.space
    then record { lit = l; layout = p.which } ∷ leaves ps ls else leaves ps ls

-- the outputs that it leaves in no cells
abbrev pub row_outs : List Place → List Lit → List Lit
row_outs [] ls = ls
row_outs (p ∷ ps) [] = []
row_outs (p ∷ ps) (l ∷ ls) = if is_state p.space then row_outs ps ls else l ∷ row_outs ps ls

-- The writes with rows come first, each write has its output, and each state that is read is an
-- input of the graph
pub record StatesFit (b : Block) : Type 0 where
  pub first : RowsFirst b.writes
  pub written : length b.outs ≡ length b.writes
  pub read : (k : ℕ) → k < length b.reads → is_state (nth_place b.reads k).space ≡ true
      → k < b.graph.inputs
