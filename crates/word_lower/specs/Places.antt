-- Where names lie and how many rows they have; and bodies and loop programs at owners' places.
use Rattle.std.specs.Prelude.{◌≡◌, ℕ, zero, suc, Bool, List, [], ◌∷◌, map, length, Some}
use Rattle.mig_graph.specs.declared.Lit.{Lit}
use Rattle.mig_graph.specs.declared.Node.{Node}
use Rattle.row_alloc.specs.declared.body.BodyCmd.{BodyCmd}
use Rattle.op_text.specs.declared.tree.Kind.{Kind}
use Rattle.op_text.specs.declared.tree.Kind.TheVariants.{Word, Bit}
use Rattle.loop_ir.specs.declared.ir.Space.TheVariants.{Source, ScratchBit, Cells}
use Rattle.loop_ir.specs.declared.names.Slot.{Slot}
use Rattle.loop_ir.specs.Statements.{Slots}
use Rattle.loop_ir.specs.declared.ir.Place.{Place}
use Rattle.loop_ir.specs.declared.ir.Sub.{Sub}
use Rattle.loop_ir.specs.Plain.{Block, StepOf, step_map}
use Rattle.loop_laws.specs.Rooms.{Extent, One, Full, Room, Owner, InRoom, InCells, Mark, Marked}

-- a word has a row at each position, and a bit one
abbrev pub rows_of : Kind → Extent
rows_of Word = Full
rows_of Bit = One

-- where the rows of a name lie, and whether a body may write them
abbrev pub room_of : Bool → Slot → Room
room_of written s = record {
  space = s.space;
  which = s.which;
  rows = rows_of s.kind;
  written = written;
}

-- a bit of internal scratch, by its number
abbrev pub scratch_bit : ℕ → Slot
scratch_bit k = record { space = ScratchBit; which = k; kind = Bit }

-- the cells of a layout, in which a state stands
abbrev pub cells : ℕ → Slot
cells layout = record { space = Cells; which = layout; kind = Bit }

-- the slot of this number; where there is none, that of no name
abbrev pub slot_at : List Slot → ℕ → Slot
slot_at [] k = record { space = Source; which = 0; kind = Word }
slot_at (s ∷ ss) zero = s
slot_at (s ∷ ss) (suc k) = slot_at ss k

-- an owner's rows, which its number gives, or the cells of a state
abbrev pub owner_at : (ℕ → Slot) → Owner → Slot
owner_at rows (InRoom k) = rows k
owner_at rows (InCells layout) = cells layout

-- the place with this subscript among the rows of a slot
abbrev pub place_in : Slot → Sub → Place
place_in s u = record { space = s.space; which = s.which; sub = u }

-- the place that an owner's place is, where the owners have these rows
abbrev pub place_on : (ℕ → Slot) → Mark → Place
place_on rows m = place_in (owner_at rows m.owner) m.sub

-- a body at the places of its owners
abbrev pub body_on : (ℕ → Slot) → Marked → Block
body_on rows b = record {
  reads = map (place_on rows) b.reads;
  graph = b.graph;
  outs = b.outs;
  writes = map (place_on rows) b.writes;
  found = b.found;
}

-- a loop program at the places of its owners
abbrev pub program_on : (ℕ → Slot) → List (StepOf Marked) → List (StepOf Block)
program_on rows steps = map (step_map (body_on rows)) steps

-- a body over places in which each read is an input, with the commands that do it
abbrev pub template_at : List Place → List Node → List Lit → List Place → List BodyCmd → Block
template_at reads nodes outs writes cmds = record {
  reads = reads;
  graph = record { inputs = length reads; nodes = nodes };
  outs = outs;
  writes = writes;
  found = cmds;
}

-- the names have these places
abbrev pub AreAt : Slots → List (List ℕ) → List Slot → Type 0
AreAt slots [] [] = Unit {0}
AreAt slots [] (s ∷ ss) = ⊥
AreAt slots (name ∷ names) [] = ⊥
AreAt slots (name ∷ names) (s ∷ ss) = (slots name ≡ Some s) × AreAt slots names ss
