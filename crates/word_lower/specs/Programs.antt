-- The loop programs of the word operations that are no flows.
use Rattle.std.specs.Prelude.{ℕ, Bool, true, false, not, List, [], ◌∷◌, length, slice_index_or}
use Rattle.mig_graph.specs.declared.Lit.{Lit}
use Rattle.mig_graph.specs.declared.Node.{Node}
use Rattle.mig_graph.specs.Literals.{node_of}
use Rattle.row_alloc.specs.declared.body.BodyCmd.{BodyCmd}
use Rattle.row_alloc.specs.declared.known.TheConstants.{NOT, AND, OR, XOR, CHOICE, ADD}
use Rattle.row_alloc.specs.declared.known_held.TheConstants.{RESET, SET, SET_BOTH, AGREE, COMPARE}
use Rattle.row_alloc.specs.declared.known_held.TheConstants.{ORDER, LESSEN}
use Rattle.op_text.specs.declared.tree.Kind.{Kind}
use Rattle.op_text.specs.declared.tree.Kind.TheVariants.{Word, Bit}
use Rattle.op_text.specs.declared.word_ops.WordOp.{WordOp}
use Rattle.op_text.specs.declared.word_ops.WordOp.TheVariants as o
use Rattle.op_text.specs.WordOps.{number}
use Rattle.op_text.specs.Language.{Statement, Compute, Visit}
use Rattle.loop_ir.specs.Plain.{StepOf}
use Rattle.loop_ir.specs.Plain.StepOf.{Single, Along}
use Rattle.loop_laws.specs.Rooms as rooms
use Rattle.loop_laws.specs.Rooms.{InRoom, InCells, Mark, Marked}
use Rattle.word_lower.specs.declared.shapes.Owner.{Owner}
use Rattle.word_lower.specs.declared.shapes.Owner.TheVariants.{Row, Cells}
use Rattle.word_lower.specs.declared.shapes.Mark as code
use Rattle.word_lower.specs.declared.shapes.BodyForm.{BodyForm}
use Rattle.word_lower.specs.declared.shapes.BodyForm.TheVariants.{Off, On, Moved, Inverted, Both}
use Rattle.word_lower.specs.declared.shapes.BodyForm.TheVariants.{Either, Unlike, Chosen, Added}
use Rattle.word_lower.specs.declared.shapes.BodyForm.TheVariants.{Reset, Set, SetBoth, Lessened}
use Rattle.word_lower.specs.declared.shapes.BodyForm.TheVariants.{Compared, Ordered, Agreed}
use Rattle.word_lower.specs.declared.shapes.ProgramLine.{ProgramLine}
use Rattle.word_lower.specs.declared.shapes.ProgramLine.TheVariants.{Once, Each}
use Rattle.word_lower.specs.declared.table.ProgramRow.{ProgramRow}
use Rattle.word_lower.specs.declared.table.ProgramRow.TheVariants.{Spread, One, Two, Three}
use Rattle.word_lower.specs.declared.table.ProgramRow.TheVariants.{Elsewhere}
use Rattle.word_lower.specs.declared.table.TheConstants.{PROGRAMS}
use Rattle.word_lower.specs.declared.templates.TheConstants.{ZERO, ONE, COPY}

-- a node as it is
abbrev pub plain : ℕ → Lit
plain k = record { node = k; inverted = false }

-- a node's complement
abbrev pub complemented : ℕ → Lit
complemented k = record { node = k; inverted = true }

-- the constant 0
abbrev pub off : Lit
off = plain 0

-- the constant 1
abbrev pub up : Lit
up = complemented 0

-- a body in which each read is an input, with the commands that do it
abbrev pub template : List Mark → List Node → List Lit → List Mark → List BodyCmd → Marked
template reads nodes outs writes cmds = record {
  reads = reads;
  graph = record { inputs = length reads; nodes = nodes };
  outs = outs;
  writes = writes;
  found = cmds;
}

-- one place gets a constant
abbrev pub constant : Lit → Mark → List BodyCmd → Marked
constant l z cmds = template [] [] (l ∷ []) (z ∷ []) cmds

-- what one row has, into another
abbrev pub moved : Mark → Mark → Marked
moved x z = template (x ∷ []) [] (plain 1 ∷ []) (z ∷ []) COPY

-- the complement of what one row has, into another
abbrev pub inverted : Mark → Mark → Marked
inverted x z = template (x ∷ []) [] (complemented 1 ∷ []) (z ∷ []) NOT

-- one node with two inputs and a constant: an and, or an or
abbrev pub joined : Lit → Mark → Mark → Mark → List BodyCmd → Marked
joined l x y z cmds = template (x ∷ y ∷ []) (node_of l (plain 1) (plain 2) ∷ []) (plain 3 ∷ [])
    (z ∷ []) cmds

-- the exclusive or of x and y
abbrev pub unlike : Mark → Mark → Mark → Marked
unlike x y z = template (x ∷ y ∷ [])
    (node_of off (complemented 1) (plain 2) ∷ node_of off (plain 1) (complemented 2)
    ∷ node_of up (plain 3) (plain 4) ∷ [])
    (plain 5 ∷ []) (z ∷ []) XOR

-- x where s is set, else y
abbrev pub chosen : Mark → Mark → Mark → Mark → Marked
chosen x y s z = template (x ∷ y ∷ s ∷ [])
    (node_of off (plain 1) (plain 3) ∷ node_of (plain 2) (complemented 3) (plain 4)
    ∷ node_of up (plain 4) (plain 5) ∷ [])
    (plain 6 ∷ []) (z ∷ []) CHOICE

-- x, y and a carry
abbrev pub added : Mark → Mark → Mark → Mark → Marked
added x y c z = template (x ∷ y ∷ c ∷ [])
    (node_of (plain 1) (plain 2) (plain 3) ∷ node_of (plain 1) (plain 2) (complemented 3)
    ∷ node_of (plain 3) (complemented 4) (plain 5) ∷ [])
    (plain 6 ∷ plain 4 ∷ []) (z ∷ c ∷ []) ADD

-- x less y, with a borrow
abbrev pub lessened : Mark → Mark → Mark → Mark → Marked
lessened x y c z = template (x ∷ y ∷ c ∷ [])
    (node_of (plain 1) (plain 2) (complemented 3) ∷ node_of (complemented 1) (plain 3) (plain 4)
    ∷ node_of (complemented 2) (plain 4) (plain 5) ∷ [])
    (plain 6 ∷ plain 5 ∷ []) (z ∷ c ∷ []) LESSEN

-- the state is whether what was read of x is over what was read of y; it is written to z too
abbrev pub compared : Mark → Mark → Mark → Mark → Marked
compared x y g z = template (x ∷ y ∷ g ∷ []) (node_of (plain 1) (complemented 2) (plain 3) ∷ [])
    (plain 4 ∷ plain 4 ∷ []) (z ∷ g ∷ []) COMPARE

-- two states get the constant 1
abbrev pub both_set : Mark → Mark → Marked
both_set g h = template [] [] (up ∷ up ∷ []) (g ∷ h ∷ []) SET_BOTH

-- two states: whether what was read of x is at least what was read of y, and the other way round
abbrev pub ordered : Mark → Mark → Mark → Mark → Marked
ordered x y g h = template (x ∷ y ∷ g ∷ h ∷ [])
    (node_of (plain 1) (complemented 2) (plain 3) ∷ node_of (complemented 1) (plain 2) (plain 4)
    ∷ [])
    (plain 5 ∷ plain 6 ∷ []) (g ∷ h ∷ []) ORDER

-- whose a place of the table is: rows by a number, or cells
abbrev pub owner_of : Owner → rooms.Owner
owner_of (Row k) = InRoom k
owner_of (Cells layout) = InCells layout

-- a place of the table, by its owner
abbrev pub mark_of : code.Mark → Mark
mark_of m = record { owner = owner_of m.owner; sub = m.sub }

-- the body that a shape of the table stands for
abbrev pub form_body : BodyForm → Marked
form_body (Off z) = constant off (mark_of z) ZERO
form_body (On z) = constant up (mark_of z) ONE
form_body (Moved x z) = moved (mark_of x) (mark_of z)
form_body (Inverted x z) = inverted (mark_of x) (mark_of z)
form_body (Both x y z) = joined off (mark_of x) (mark_of y) (mark_of z) AND
form_body (Either x y z) = joined up (mark_of x) (mark_of y) (mark_of z) OR
form_body (Unlike x y z) = unlike (mark_of x) (mark_of y) (mark_of z)
form_body (Chosen x y s z) = chosen (mark_of x) (mark_of y) (mark_of s) (mark_of z)
form_body (Added x y c z) = added (mark_of x) (mark_of y) (mark_of c) (mark_of z)
form_body (Reset g) = constant off (mark_of g) RESET
form_body (Set g) = constant up (mark_of g) SET
form_body (SetBoth g h) = both_set (mark_of g) (mark_of h)
form_body (Lessened x y c z) = lessened (mark_of x) (mark_of y) (mark_of c) (mark_of z)
form_body (Compared x y g z) = compared (mark_of x) (mark_of y) (mark_of g) (mark_of z)
form_body (Ordered x y g h) = ordered (mark_of x) (mark_of y) (mark_of g) (mark_of h)
form_body (Agreed g h z) = joined off (mark_of g) (mark_of h) (mark_of z) AGREE

-- the step that a line does
abbrev pub line_step : ProgramLine → StepOf Marked
line_step (Once s) = Single (form_body s)
line_step (Each s) = Along (form_body s)

-- the steps of a row of the table. The kind is the target's
abbrev pub row_steps : ProgramRow → Kind → List (StepOf Marked)
row_steps (Spread word bit) Word = Along (form_body word) ∷ []
row_steps (Spread word bit) Bit = Single (form_body bit) ∷ []
row_steps (One a) k = line_step a ∷ []
row_steps (Two a b) k = line_step a ∷ line_step b ∷ []
row_steps (Three a b c) k = line_step a ∷ line_step b ∷ line_step c ∷ []
row_steps Elsewhere k = []

-- the row of an operation that is a flow
abbrev pub is_elsewhere : ProgramRow → Bool
is_elsewhere Elsewhere = true
is_elsewhere r = false

-- an operation's row of the table
abbrev pub program_at : ℕ → WordOp × ProgramRow
program_at k = slice_index_or PROGRAMS k (o.Not, Elsewhere)

-- what the table has of an operation
abbrev pub program_of : WordOp → ProgramRow
program_of p = (program_at (number p)).1

-- The loop program of an operation
abbrev pub program : WordOp → Kind → List (StepOf Marked)
program p k = row_steps (program_of p) k

-- the operations that have a program in the table
abbrev pub is_linear : WordOp → Bool
is_linear p = not (is_elsewhere (program_of p))

-- the statement is a serial block, or one of these
abbrev pub is_linear_statement : Statement → Bool
is_linear_statement (Compute target second p args) = is_linear p
is_linear_statement (Visit block) = true
