-- What a machine shows of itself.
use Rattle.std.specs.Prelude.{◌≡◌, ℕ, Bool, true, false, List, map}
use Rattle.dram_model.specs.declared.geometry.Geometry.{Geometry}
use Rattle.dram_model.specs.Chip.{Banks, Event}
use Rattle.dram_model.specs.Geometry.{is_geometry}
use Rattle.uprog_code.specs.Shape.{Microprogram}
use Rattle.object_alloc.specs.Listed.{Named}
use Rattle.sim_machine.specs.declared.machine.Machine.{Machine}
use Rattle.bbop_isa.specs.declared.instr.Place.{Place}
use Rattle.bbop_isa.specs.Forms.{Instruction}
use Rattle.bbop_isa.specs.Forms.{Init, Bbop, Load, Fill, Print, Free, Order}
use Rattle.wave_model.specs.Schedule.{Queues, Turn}
use Rattle.machine_model.specs.declared.Reply.{Reply}
use Rattle.machine_model.specs.Columns.{segments}
use Rattle.machine_model.specs.Routines.{Routines, routines_in}
use Rattle.machine_model.specs.Refusals.{rows_of}
use Rattle.machine_model.specs.Laws.{TableFits}
use Rattle.machine_model.specs.Pieces.{Piece, piece_events, piece_of, pieces, turn_after}
use Rattle.machine_model.specs.Pieces.{turn_at_end, wave_queues}
use Rattle.machine_model.specs.Report.{Said, line, lines, said_by}
use Rattle.machine_model.specs.Report.Said.{Answered}
use Rattle.object_steps.specs.Lines.{printed_line}
use Rattle.machine_model.specs.Script.{banks_printed, rows_if_done, rows_printed, table_at_end}
use Rattle.machine_model.specs.Steps.{new_object, reply_to, table_after}

-- the program that its bbops run
abbrev pub program_of : Machine → List Microprogram
program_of m = m.programs

-- the shape of its chip
abbrev pub geometry_of : Machine → Geometry
geometry_of m = m.geometry

-- its objects
abbrev pub table_in : Machine → List Named
table_in m = m.table

-- the order in force, with its picker's state
abbrev pub turn_in : Machine → Turn
turn_in m = m.turn

-- the image file that was spelled last
abbrev pub file_of : Machine → List ℕ
file_of m = m.file

-- the operations that its program offers by name
abbrev pub operations_by : Machine → Routines
operations_by m = routines_in (program_of m)

-- its reply to an instruction
abbrev pub reply_of : Machine → Instruction → Reply
reply_of m instr = reply_to (geometry_of m) (operations_by m) (table_in m) instr

-- what is said of an instruction in its report
abbrev pub said_of_step : Machine → Banks → Instruction → Said
said_of_step m banks instr = said_by (geometry_of m) (operations_by m) (table_in m) banks instr

-- its table after an instruction
abbrev pub moved_table : Machine → Instruction → List Named
moved_table m instr = table_after (geometry_of m) (operations_by m) (table_in m) instr

-- the events of a piece of a script on its chip
abbrev pub events_by : Machine → Piece → List Event
events_by m piece = piece_events (geometry_of m) (operations_by m) (turn_in m) (table_in m) piece

-- the order in force after a piece
abbrev pub turn_by_piece : Machine → Piece → Turn
turn_by_piece m piece = turn_after (geometry_of m) (operations_by m) (turn_in m) (table_in m) piece

-- the machine after an instruction
abbrev pub stepped : Machine → Instruction → Machine
stepped m instr =
    record m { table = moved_table m instr; turn = turn_by_piece m (piece_of instr) }

-- the machine after a script
abbrev pub at_end : Machine → List Instruction → Machine
at_end m script = record m {
  table = table_at_end (geometry_of m) (operations_by m) (table_in m) script;
  turn = turn_at_end (geometry_of m) (operations_by m) (turn_in m) (table_in m) (pieces script);
}

-- at most the objects and the order in force are others
abbrev pub GoesOn : Machine → Machine → Type 0
GoesOn old new = new ≡ record old { table = table_in new; turn = turn_in new }

-- a machine has a chip, and its objects lie on it
pub record IsLaidOut (m : Machine) : Type 0 where
  pub shape : is_geometry (geometry_of m) ≡ true
  pub table : TableFits (geometry_of m) (table_in m)

-- the commands of each bank in a wave of bbops
abbrev pub queues_by : Machine → List Instruction → Queues
queues_by m wave = wave_queues (geometry_of m) (operations_by m) (table_in m) wave

-- how many data rows are read for an instruction
abbrev pub reads_by : Machine → Instruction → ℕ
reads_by m instr = rows_if_done rows_printed (geometry_of m) (operations_by m) (table_in m) instr

-- and in how many banks
abbrev pub banks_read : Machine → Instruction → ℕ
banks_read m instr = banks_printed (geometry_of m) (table_in m) instr

-- how many banks an instruction may change
abbrev pub banks_by : Machine → Instruction → ℕ
banks_by m (Init name count n) =
    segments (geometry_of m) (new_object (geometry_of m) (table_in m) count n)
banks_by m (Bbop op dst srcs count n) = segments (geometry_of m) (rows_of (table_in m) dst)
banks_by m (Load place values) = segments (geometry_of m) (rows_of (table_in m) place)
banks_by m (Fill place value) = segments (geometry_of m) (rows_of (table_in m) place)
banks_by m (Print place) = segments (geometry_of m) (rows_of (table_in m) place)
banks_by m (Free name) = 0
banks_by m (Order order) = 0

-- the instruction prints an object, so that its line comes while rows are read
abbrev pub is_print : Instruction → Bool
is_print (Print place) = true
is_print (Init name count n) = false
is_print (Bbop op dst srcs count n) = false
is_print (Load place values) = false
is_print (Fill place value) = false
is_print (Free name) = false
is_print (Order order) = false

-- what a part of a step takes, for its proof: a load, a fill and an order leave the table, and are
-- said by their replies
abbrev pub leaves_table : Instruction → Bool
leaves_table (Load place values) = true
leaves_table (Fill place value) = true
leaves_table (Order order) = true
leaves_table (Init name count n) = false
leaves_table (Bbop op dst srcs count n) = false
leaves_table (Print place) = false
leaves_table (Free name) = false

-- the line of an instruction
abbrev pub reply_line : Machine → ℕ → Banks → Instruction → List ℕ
reply_line m number banks instr = line number (said_of_step m banks instr)

-- the line of a print whose values are shown as another operand's: none where it is refused
abbrev pub line_shown : Machine → ℕ → Banks → (place shown : Place) → List ℕ
line_shown m number banks place shown = printed_line (geometry_of m) (operations_by m) (table_in m)
    banks number place shown

-- the lines of a wave of bbops
abbrev pub lines_of : Machine → ℕ → List Instruction → List ℕ
lines_of m number wave = lines number (map Answered (map (reply_of m) wave))
