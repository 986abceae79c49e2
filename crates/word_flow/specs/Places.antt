-- The rooms of such a statement: its targets, its arguments, of which a lone one stands for both,
-- and its internal scratch, by the numbers that the operation's flow gives them.
use Rattle.std.specs.Prelude.{◌≡◌, ℕ, ◌+◌, true, false, List, [], ◌∷◌, length, nat_lt}
use Rattle.std.specs.Prelude.{Option, Some, unwrap_or, if◌then◌else◌}
use Rattle.std.specs.Option.{option_to_list}
use Rattle.op_text.specs.declared.tree.Kind.TheVariants.{Word}
use Rattle.op_text.specs.declared.word_ops.WordOp.{WordOp}
use Rattle.op_text.specs.declared.word_ops.WordOp.TheVariants as o
use Rattle.op_text.specs.Language.{Statement, Compute, Visit}
use Rattle.loop_ir.specs.declared.ir.Space.TheVariants.{ScratchWord}
use Rattle.loop_ir.specs.declared.names.Slot.{Slot}
use Rattle.loop_ir.specs.Flows.{flow_map}
use Rattle.loop_ir.specs.Plain.{StepOf, Block}
use Rattle.loop_ir.specs.Plain.StepOf.{Flowed}
use Rattle.loop_ir.specs.Statements.{Slots}
use Rattle.loop_laws.specs.Rooms.{Room, placed_body}
use Rattle.word_lower.specs.Places.{scratch_bit, room_of, AreAt}
use Rattle.word_lower.specs.Shapes.{following}
use Rattle.word_flow.specs.declared.rows.Rows.{Rows}
use Rattle.word_flow.specs.Programs.{flow_for}

-- a word of internal scratch, by its number
abbrev pub scratch_word : ℕ → Slot
scratch_word k = record { space = ScratchWord; which = k; kind = Word }

-- The rows of such a statement, by the numbers of their owners: the target or, of `rem`, a bit of
-- scratch for the quotient's bits; the arguments; and what else an operation has
abbrev pub rooms_for : WordOp → Rows → List Room
rooms_for o.Mul m = room_of true m.target ∷ room_of false m.a ∷ room_of false m.b
    ∷ room_of true (scratch_bit m.free_bit) ∷ []
rooms_for o.Div m = room_of true m.target ∷ room_of false m.a ∷ room_of false m.b
    ∷ room_of true (scratch_word m.free_word) ∷ room_of true (scratch_word (m.free_word + 1)) ∷ []
rooms_for o.Rem m = room_of true (scratch_bit m.free_bit) ∷ room_of false m.a ∷ room_of false m.b
    ∷ room_of true (scratch_word m.free_word) ∷ room_of true m.target ∷ []
rooms_for o.Divmod m = room_of true m.target ∷ room_of false m.a ∷ room_of false m.b
    ∷ room_of true (scratch_word m.free_word) ∷ room_of true m.second ∷ []
rooms_for p m = room_of true m.target ∷ room_of false m.a ∷ []

-- the loop program of such a statement: the operation's flow, with its places found
abbrev pub steps_for : WordOp → Rows → List (StepOf Block)
steps_for p m = Flowed (flow_map (placed_body (rooms_for p m)) (flow_for p)) ∷ []

-- the places of targets and of arguments, of which a lone one stands for both
abbrev pub rows_on : Slot → Option Slot → List Slot → ℕ → ℕ → Rows
rows_on t second ss free_bit free_word = record {
  target = t;
  second = unwrap_or second t;
  a = following ss free_bit 0;
  b = following ss free_bit (if nat_lt 1 (length ss) then 1 else 0);
  free_bit = free_bit;
  free_word = free_word;
}

-- the operation's steps are its flow, body for body, at the places of the targets, of the arguments
-- and of its internal scratch
abbrev pub IsFlowWritten : Slots → ℕ → ℕ → Statement → List (StepOf Block) → Type 0
IsFlowWritten slots free_bit free_word (Compute target second p args) steps = (t : Slot)
    (u : Option Slot) (ss : List Slot) → slots target ≡ Some t
    → AreAt slots (option_to_list second) (option_to_list u) → AreAt slots args ss
    → steps ≡ steps_for p (rows_on t u ss free_bit free_word)
IsFlowWritten slots free_bit free_word (Visit block) steps = Unit {0}
