-- The forms of statements' loop programs.
use Rattle.std.specs.Prelude.{◌≡◌, ℕ, List, Some}
use Rattle.op_text.specs.Language.{Statement, Compute, Visit}
use Rattle.loop_ir.specs.declared.names.Slot.{Slot}
use Rattle.loop_ir.specs.Plain.{Block, StepOf}
use Rattle.loop_ir.specs.Statements.{Slots}
use Rattle.block_lower.specs.Form.{IsBlockProgram}
use Rattle.word_lower.specs.Places.{AreAt, slot_at, program_on}
use Rattle.word_lower.specs.Programs.{program}
use Rattle.word_lower.specs.Shapes.{owners_of}

-- a block's steps are a loop program of it: its states' starts, and then a body at each position
abbrev pub HasForm : Slots → Statement → List (StepOf Block) → Type 0
HasForm slots (Compute target second p args) steps = Unit {0}
HasForm slots (Visit block) steps = IsBlockProgram slots block steps

-- a word operation's steps are its loop program's, node for node, at the places of the target, of
-- the arguments and of the first free bit of scratch
abbrev pub IsWritten : Slots → ℕ → Statement → List (StepOf Block) → Type 0
IsWritten slots free_bit (Compute target second p args) steps = (t : Slot) (ss : List Slot)
    → slots target ≡ Some t → AreAt slots args ss
    → steps ≡ program_on (slot_at (owners_of t ss free_bit)) (program p t.kind)
IsWritten slots free_bit (Visit block) steps = Unit {0}
