-- A script's events: its bbops in waves under the order in force, each other instruction alone.
use Rattle.std.specs.Prelude.{◌≡◌, ℕ, ◌<◌, ◌≤◌, ◌==◌, min, true, false, is_none, if◌then◌else◌}
use Rattle.std.specs.Prelude.{List, [], ◌∷◌, ◌++◌, map, filter, length}
use Rattle.std.specs.List.{AllByRecursion, prefix_len}
use Rattle.dram_model.specs.declared.geometry.Geometry.{Geometry}
use Rattle.dram_model.specs.Chip.{Event}
use Rattle.object_alloc.specs.Listed.{Named}
use Rattle.bbop_isa.specs.declared.instr.Order.{Order as Orders}
use Rattle.bbop_isa.specs.declared.instr.Order.TheVariants.{Forward, Turns, Seed}
use Rattle.bbop_isa.specs.Forms.{Instruction}
use Rattle.bbop_isa.specs.Forms.{Init, Bbop, Load, Fill, Print, Free, Order}
use Rattle.machine_model.specs.Routines.{Routines}
use Rattle.machine_model.specs.Refusals.{refusal}
use Rattle.wave_model.specs.Schedule.{WaveJob, Queues, queues, events_of_picks, whole_picks}
use Rattle.wave_model.specs.Schedule.{last_state, Turn, Ahead, Turning, Drawing, in_turn}
use Rattle.machine_model.specs.Steps.{job_of, own_events, if_done}
use Rattle.machine_model.specs.Script.{is_bbop, table_at_end}

-- a wave of neighbouring bbops, or another instruction alone
pub data Piece : Type 0 where
  Wave : List Instruction → Piece
  Alone : Instruction → Piece

-- the instructions of a piece
abbrev pub instrs_in : Piece → List Instruction
instrs_in (Wave wave) = wave
instrs_in (Alone instr) = instr ∷ []

-- the instructions that a wave may have
abbrev pub AreBbops : List Instruction → Type 0
AreBbops instrs = AllByRecursion (λ instr. is_bbop instr ≡ true) instrs

-- a wave has 1 to 16 bbops
abbrev pub IsPiece : Piece → Type 0
IsPiece (Wave wave) = AreBbops wave × (0 < length wave) × (length wave ≤ 16)
IsPiece (Alone instr) = is_bbop instr ≡ false

-- the wave that was gathered, if there is any
abbrev pub gathered : List Instruction → List Piece
gathered [] = []
gathered (instr ∷ wave) = Wave (instr ∷ wave) ∷ []

-- the pieces of a wave being gathered and of the script after it: a wave ends when it has 16
abbrev pub pieces_from : List Instruction → List Instruction → List Piece
pieces_from wave [] = gathered wave
pieces_from wave (instr ∷ script) =
    if is_bbop instr
    then (if length wave == 16 then Wave wave ∷ pieces_from (instr ∷ []) script
    else pieces_from (wave ++ instr ∷ []) script)
    else gathered wave ++ Alone instr ∷ pieces_from [] script

-- a script cut into its waves and its other instructions
abbrev pub pieces : List Instruction → List Piece
pieces script = pieces_from [] script

-- how many bbops the first wave of a script has: those that it begins with, 16 at most
abbrev pub wave_size : List Instruction → ℕ
wave_size script = min 16 (prefix_len is_bbop script)

-- an instruction by itself: a bbop is a wave of one
abbrev pub piece_of : Instruction → Piece
piece_of instr = if is_bbop instr then Wave (instr ∷ []) else Alone instr

-- the jobs of the bbops of a wave that are not refused, in order, and the banks' queues
abbrev pub jobs_of : Geometry → Routines → List Named → List Instruction → List WaveJob
jobs_of g operations table wave = map (job_of g operations table)
    (filter (λ instr. is_none (refusal g operations table instr)) wave)

-- what each bank has to do in a wave: the commands of the bbops that are not refused
abbrev pub wave_queues : Geometry → Routines → List Named → List Instruction → Queues
wave_queues g operations table wave = queues (jobs_of g operations table wave)

-- the events of a piece
abbrev pub piece_events : Geometry → Routines → Turn → List Named → Piece → List Event
piece_events g operations turn table (Wave wave) =
    let left = wave_queues g operations table wave in
    events_of_picks g.banks (whole_picks in_turn g.banks turn left) left
piece_events g operations turn table (Alone instr) =
    if_done (refusal g operations table instr) (own_events g table instr) []

-- an order that is given comes into force with a new picker
abbrev pub turn_of : Orders → Turn
turn_of Forward = Ahead
turn_of Turns = Turning 0
turn_of (Seed seed) = Drawing seed

-- the order in force after an instruction, which only an order changes
abbrev pub turn_by : Turn → Instruction → Turn
turn_by turn (Order o) = turn_of o
turn_by turn (Init name count n) = turn
turn_by turn (Bbop op dst srcs count n) = turn
turn_by turn (Load name values) = turn
turn_by turn (Fill name value) = turn
turn_by turn (Print name) = turn
turn_by turn (Free name) = turn

-- the order in force after a piece
abbrev pub turn_after : Geometry → Routines → Turn → List Named → Piece → Turn
turn_after g operations turn table (Wave wave) =
    last_state in_turn g.banks turn (wave_queues g operations table wave)
turn_after g operations turn table (Alone instr) = turn_by turn instr

-- the events of pieces: the order in force and the table go on from piece to piece
abbrev pub events_of_pieces : Geometry → Routines → Turn → List Named → List Piece → List Event
events_of_pieces g operations turn table [] = []
events_of_pieces g operations turn table (piece ∷ rest) =
    piece_events g operations turn table piece
    ++ events_of_pieces g operations (turn_after g operations turn table piece)
    (table_at_end g operations table (instrs_in piece)) rest

-- the order in force after pieces
abbrev pub turn_at_end : Geometry → Routines → Turn → List Named → List Piece → Turn
turn_at_end g operations turn table [] = turn
turn_at_end g operations turn table (piece ∷ rest) =
    turn_at_end g operations (turn_after g operations turn table piece)
    (table_at_end g operations table (instrs_in piece)) rest

-- the events of a script: at first each pick is the first live bank
abbrev pub script_events : Geometry → Routines → List Named → List Instruction → List Event
script_events g operations table script = events_of_pieces g operations Ahead table (pieces script)
