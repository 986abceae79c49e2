-- Bodies and flows at the places of their owners, which are given as slots, by their numbers.
-- Private contracts alone speak of this.
use Rattle.std.specs.Prelude.{◌+◌, Bool, true, ◌&&◌, nat_lt, nat_le, List, [], ◌∷◌}
use Rattle.std.specs.Prelude.{length}
use Rattle.std.specs.List.{list_all}
use Rattle.op_text.specs.declared.word_ops.WordOp.{WordOp}
use Rattle.op_text.specs.declared.word_ops.WordOp.TheVariants as o
use Rattle.loop_ir.specs.declared.names.Slot.{Slot}
use Rattle.loop_ir.specs.Plain.{Block}
use Rattle.word_lower.specs.Places.{scratch_bit, slot_at, body_on}
use Rattle.word_lower.specs.Shapes.{are_own, are_below}
use Rattle.word_flow.specs.declared.rows.Rows.{Rows}
use Rattle.word_flow.specs.declared.shapes.CodedBody.{CodedBody}
use Rattle.word_flow.specs.declared.shapes.Line.{Line}
use Rattle.word_flow.specs.declared.shapes.Line.TheVariants as line
use Rattle.word_flow.specs.Plans.{four_of, coded_of}
use Rattle.word_flow.specs.Places.{scratch_word}

-- the slots of an operation's owners, and after those the target's
abbrev pub slots_for : WordOp → Rows → List Slot
slots_for o.Mul m = m.target ∷ m.a ∷ m.b ∷ scratch_bit m.free_bit ∷ m.target ∷ []
slots_for o.Div m = m.target ∷ m.a ∷ m.b ∷ scratch_word m.free_word
    ∷ scratch_word (m.free_word + 1) ∷ []
slots_for o.Rem m = scratch_bit m.free_bit ∷ m.a ∷ m.b ∷ scratch_word m.free_word ∷ m.target ∷ []
slots_for o.Divmod m = m.target ∷ m.a ∷ m.b ∷ scratch_word m.free_word ∷ m.second ∷ []
slots_for p m = m.target ∷ m.a ∷ m.target ∷ m.target ∷ m.target ∷ []

-- a body with its commands at the places of its owners
abbrev pub coded_on : List Slot → CodedBody → Block
coded_on slots c = body_on (slot_at slots) (coded_of c)

-- a body of a table has a graph such as `Mig` makes, with outputs that name nodes of it
abbrev pub is_coded : CodedBody → Bool
is_coded c = let inputs = length (four_of c.reads) in
    nat_le inputs 4 && (nat_le (length (four_of c.nodes)) 6 && (nat_lt 0 (length (four_of c.outs))
    && (are_own (inputs + 1) (four_of c.nodes)
    && are_below (inputs + 1 + length (four_of c.nodes)) (four_of c.outs))))

-- a line's body is such
abbrev pub line_holds : Line → Bool
line_holds (line.Do c) = is_coded c
line_holds l = true

-- all of a table's are
abbrev pub lines_hold : List Line → Bool
lines_hold lines = list_all line_holds lines
