-- What a loop program has to keep, so that it can be compiled.
use Rattle.std.specs.Prelude.{◌≡◌, ℕ, ◌+◌, ◌<◌, ◌≤◌, ◌==◌, Bool, true, ◌&&◌, nat_le, List}
use Rattle.std.specs.Prelude.{[], ◌∷◌, length, if◌then◌else◌}
use Rattle.std.specs.List.{AllByRecursion, list_all}
use Rattle.bit_rows.specs.declared.TheConstants.{WIDTH_MAX}
use Rattle.mig_graph.specs.Graph.{IsGraph}
use Rattle.mig_graph.specs.Outputs.{AreNamed}
use Rattle.loop_ir.specs.Plain.{Block, StepOf, AllParts}
use Rattle.loop_ir.specs.Plain.StepOf.{Single, Along, Flowed}
use Rattle.loop_ir.specs.Flows.{all_flow}
use Rattle.loop_ir.specs.Loops.{all_rounds}
use Rattle.loop_ir.specs.declared.ir.Place.{Place}
use Rattle.loop_ir.specs.Spots.{Spot, is_state, nth_place}
use Rattle.loop_ir.specs.WellFormed.{IsOneValue}
use Rattle.loop_ir.specs.States.{StatesFit, has_states}
use Rattle.loop_ir.specs.Chains.{steps_find}
use Rattle.loop_ir.specs.Costs.{code_cost, bodies}
use Rattle.loop_ir.specs.Limits.{HasCommands, IsRound, StepHasValues, step_stands}

-- a body's places and numbers, but for its nodes
pub record IsSlim (b : Block) : Type 0 where
  pub reads : b.graph.inputs ≤ length b.reads
  pub states : StatesFit b
  pub commands : HasCommands b
  pub apart : (i j : ℕ) → i < length b.writes → j < length b.writes
      → IsOneValue (nth_place b.writes i) (nth_place b.writes j) → i ≡ j
  pub same : (j k : ℕ) → j < length b.writes → k < length b.reads
      → IsOneValue (nth_place b.writes j) (nth_place b.reads k)
      → (nth_place b.writes j).sub ≡ (nth_place b.reads k).sub
  pub inputs : b.graph.inputs ≤ 80
  pub outputs : length b.outs ≤ 8
  pub rows : length b.graph.nodes + length b.outs ≤ 32

-- a body's graph is one that `Mig` makes
pub record IsMade (b : Block) : Type 0 where
  pub graph : IsGraph b.graph.inputs b.graph.nodes
  pub named : AreNamed b.graph b.outs

-- code can be made of the loop program, if its graphs are such as `Mig` makes
pub record HasForm (may_have : ℕ → Spot → Type 0) (steps : List (StepOf Block)) : Type 0 where
  pub slim : AllParts IsSlim steps
  pub find : steps_find [] steps ≡ true
  pub stand : list_all step_stands steps ≡ true
  pub values : AllByRecursion (StepHasValues may_have) steps
  pub rounds : (n : ℕ) → 0 < n → n ≤ WIDTH_MAX
      → AllByRecursion (IsRound (may_have n) n) (all_rounds n steps)
  pub size : code_cost steps ≤ 256
  pub few : bodies steps ≤ 12

-- the numbers of these bounds, as a test
abbrev pub has_room : Block → Bool
has_room b =
    nat_le b.graph.inputs (length b.reads)
    && (length b.outs == length b.writes
    && (nat_le b.graph.inputs 80
    && (nat_le (length b.outs) 8
    && nat_le (length b.graph.nodes + length b.outs) 32)))

-- every body of a loop program keeps these bounds
abbrev pub steps_have_room : List (StepOf Block) → Bool
steps_have_room [] = true
steps_have_room (Single b ∷ ss) = has_room b && steps_have_room ss
steps_have_room (Along b ∷ ss) = has_room b && steps_have_room ss
steps_have_room (Flowed f ∷ ss) = all_flow has_room f && steps_have_room ss

-- a loop program is small enough that its code is within the limits: the test that a written
-- program is checked by
abbrev pub is_short : List (StepOf Block) → Bool
is_short steps = steps_have_room steps && (list_all step_stands steps
    && (nat_le (code_cost steps) 256 && nat_le (bodies steps) 12))

-- all places from the first state on are states
abbrev pub are_rows_first : List Place → Bool
are_rows_first [] = true
are_rows_first (p ∷ ps) = if is_state p.space then list_all (λ q. is_state q.space) ps
    else are_rows_first ps

-- where the body has states, each read is an input, and the rows are written first
abbrev pub states_fit : Block → Bool
states_fit b = if has_states b then nat_le (length b.reads) b.graph.inputs
    && are_rows_first b.writes else true

-- so it is in every body of a loop program
abbrev pub steps_states_fit : List (StepOf Block) → Bool
steps_states_fit [] = true
steps_states_fit (Single b ∷ ss) = states_fit b && steps_states_fit ss
steps_states_fit (Along b ∷ ss) = states_fit b && steps_states_fit ss
steps_states_fit (Flowed f ∷ ss) = all_flow states_fit f && steps_states_fit ss

-- each body with states keeps these rules, and finds the states that it reads
abbrev pub keeps_states : List (StepOf Block) → Bool
keeps_states steps = steps_states_fit steps && steps_find [] steps
