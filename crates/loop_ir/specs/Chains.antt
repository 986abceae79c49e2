-- A test after which each body finds the states that it reads, at every width.
use Rattle.std.specs.Prelude.{ℕ, ◌==◌, ◌&&◌, Bool, true, List, [], ◌∷◌, if◌then◌else◌}
use Rattle.std.specs.List.{list_any, list_all}
use Rattle.loop_ir.specs.declared.ir.Place.{Place}
use Rattle.loop_ir.specs.Plain.{Block, StepOf}
use Rattle.loop_ir.specs.Plain.StepOf.{Single, Along, Flowed}
use Rattle.loop_ir.specs.Flows.{FlowOf}
use Rattle.loop_ir.specs.FlowTests.{widths}
use Rattle.loop_ir.specs.Loops.{RoundOf, flow_rounds}
use Rattle.loop_ir.specs.Spots.{is_state}

-- the states among the places, by their layouts
abbrev pub states_in : List Place → List ℕ
states_in [] = []
states_in (p ∷ ps) = if is_state p.space then p.which ∷ states_in ps else states_in ps

-- the state is one of these
abbrev pub is_alive : ℕ → List ℕ → Bool
is_alive w alive = list_any (λ v. v == w) alive

-- the body reads no state but these
abbrev pub finds : List ℕ → Block → Bool
finds alive b = list_all (λ w. is_alive w alive) (states_in b.reads)

-- the states that a body leaves: all others may be lost
abbrev pub left_by : Block → List ℕ
left_by b = states_in b.writes

-- a body in a loop finds them before the first round and after each
abbrev pub loop_finds : List ℕ → Block → Bool
loop_finds alive b = finds alive b && finds (left_by b) b

-- each round finds the states that it reads among those that the one before it leaves
abbrev pub chained : List ℕ → List (RoundOf Block) → Bool
chained alive [] = true
chained alive (r ∷ rs) = finds alive r.part && chained (left_by r.part) rs

-- so it is in a flow, at each width, where none is found as it begins
abbrev pub flow_finds : FlowOf Block → Bool
flow_finds f = list_all (λ n. chained [] (flow_rounds n f)) widths

-- each step finds its states: a flow leaves none that is sure
abbrev pub steps_find : List ℕ → List (StepOf Block) → Bool
steps_find alive [] = true
steps_find alive (Single b ∷ ss) = finds alive b && steps_find (left_by b) ss
steps_find alive (Along b ∷ ss) = loop_finds alive b && steps_find (left_by b) ss
steps_find alive (Flowed f ∷ ss) = flow_finds f && steps_find [] ss
