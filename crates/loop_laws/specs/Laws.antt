-- The laws of loop programs.
use Rattle.std.specs.Prelude.{◌≡◌, ℕ, ◌<◌, ◌≤◌, true, false, List, []}
use Rattle.bit_rows.specs.declared.TheConstants.{WIDTH_MAX}
use Rattle.loop_ir.specs.Plain.{Block, StepOf, AllParts}
use Rattle.loop_ir.specs.Spots.{Spot, is_state}
use Rattle.loop_ir.specs.WellFormed.{AreWellFormed}
use Rattle.loop_ir.specs.Limits.{HasCommands, CanCompile}
use Rattle.loop_laws.specs.Rooms.{Room, Marked, RoomsApart, IsOwned, steps_fit, placed_steps}
use Rattle.loop_laws.specs.Forms.{HasForm, IsMade, is_short, keeps_states}

-- Code can be made, over rows that it may have, of a program of that form with such graphs.
abbrev pub MadeCompile : (ℕ → Spot → Type 0) → Type 0
MadeCompile may_have = (steps : List (StepOf Block)) → AllParts IsMade steps
    → HasForm may_have steps → AreWellFormed steps × CanCompile may_have steps

-- The tests on owners, subscripts, numbers and states are enough, where each body's commands do it
-- and the rooms are apart at every width and have such rows alone, of which none stands in cells.
-- Which rows they have plays no part in the tests on states.
abbrev pub MarksAreEnough : (ℕ → Spot → Type 0) → Type 0
MarksAreEnough may_have = (rooms : List Room) (steps : List (StepOf Marked))
    → ((n : ℕ) → 0 < n → n ≤ WIDTH_MAX → RoomsApart n rooms)
    → ((n : ℕ) → 0 < n → n ≤ WIDTH_MAX → (q : Spot) → IsOwned n rooms q → may_have n q)
    → ((n : ℕ) (q : Spot) → may_have n q → is_state q.space ≡ false)
    → steps_fit rooms steps ≡ true → is_short (placed_steps rooms steps) ≡ true
    → keeps_states (placed_steps [] steps) ≡ true → AllParts HasCommands (placed_steps rooms steps)
    → HasForm may_have (placed_steps rooms steps)
