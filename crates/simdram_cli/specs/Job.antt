-- A job: SCRIPT is done on IMAGE with a program. What is said of it, what stands after it, and its
-- steps.
use Rattle.std.specs.Prelude.{ℕ, ◌+◌, ◌*◌, List, [], ◌∷◌, ◌++◌, length, count_by}
use Rattle.std.specs.Prelude.{nat_lt, if◌then◌else◌}
use Rattle.dram_model.specs.declared.dram.Counters.{Counters}
use Rattle.dram_model.specs.declared.geometry.Geometry.{Geometry}
use Rattle.dram_model.specs.Chip.{Banks, blank_banks}
use Rattle.object_alloc.specs.Listed.{Named}
use Rattle.object_alloc.specs.Spelling.{image_bytes}
use Rattle.bbop_isa.specs.Forms.{Instruction}
use Rattle.machine_model.specs.declared.Reply.{Reply}
use Rattle.machine_model.specs.Routines.{Program, Routines, routines_in}
use Rattle.machine_model.specs.Opened.{Image, opened, row_writes, rows_in_banks}
use Rattle.machine_model.specs.Script.{replies, table_at_end, banks_at_end, sum_of, sum_done}
use Rattle.machine_model.specs.Script.{banks_printed, rows_loaded, rows_printed, is_refused}
use Rattle.wave_model.specs.Schedule.{Turn, Ahead}
use Rattle.machine_model.specs.Pieces.{Piece, Wave, Alone, instrs_in, pieces, piece_events}
use Rattle.machine_model.specs.Pieces.{turn_after, wave_queues}
use Rattle.machine_model.specs.Report.{Said, said_by, said_in_rows, line, total_line}
use Rattle.cli_model.specs.Waves.{ChipUse, ChipWave, and_reading, doing}
use Rattle.cli_model.specs.Steps.{Step, Store, Open, Use, UseFor, Put, line_steps}
use Rattle.sim_machine.specs.Machine.{is_print}

-- what is said of a script by a program
abbrev pub said_in : Program → List Instruction → Image → List Said
said_in program script i = said_in_rows i.geometry (routines_in program) i.table (opened i) script

-- the replies to a script on an image by a program
abbrev pub replies_by : Program → List Instruction → Image → List Reply
replies_by program script i = replies i.geometry (routines_in program) i.table script

-- the counters of a chip that has begun and has taken the rows of an image
abbrev pub opened_counters : Geometry → Counters
opened_counters g = record { aap = 0; ap = 0; writes = g.banks * g.rows; reads = 0 }

-- each row of every bank is written at the opening and read for the image
abbrev pub tally_by : Program → List Instruction → Image → Counters
tally_by program script i =
    let all = i.geometry.banks * i.geometry.rows in
    record {
      aap = (sum_of (replies_by program script i)).aap;
      ap = (sum_of (replies_by program script i)).ap;
      writes = all + sum_done rows_loaded i.geometry (routines_in program) i.table script;
      reads = all + sum_done rows_printed i.geometry (routines_in program) i.table script;
    }

-- how many instructions are refused, as the line of the totals tells it
abbrev pub refused_by : Program → List Instruction → Image → ℕ
refused_by program script i = count_by is_refused (replies_by program script i)

-- 8 where an instruction was refused
abbrev pub done_status : ℕ → ℕ
done_status refused = if nat_lt 0 refused then 8 else 0

-- the image after a script
abbrev pub image_by : Program → List Instruction → Image → List ℕ
image_by program script i =
    image_bytes i.geometry (table_at_end i.geometry (routines_in program) i.table script)
    (rows_in_banks (banks_at_end i.geometry (routines_in program) i.table (opened i) script))

-- lines are sent, the first of which has this number
abbrev pub put_lines : ℕ → List Said → List Step
put_lines number [] = []
put_lines number (said ∷ rest) = Put (line number said) ∷ put_lines (number + 1) rest

-- the chip begins, and takes the image's rows
abbrev pub opening : Image → Step
opening i = Open (doing (blank_banks i.geometry) (row_writes i))

-- every row of a chip with these banks is read
abbrev pub reading : Geometry → Banks → Step
reading g banks = Use (and_reading g.banks (doing banks []))

-- every row is read after a script
abbrev pub reading_by : Program → List Instruction → Image → Step
reading_by program script i =
    reading i.geometry (banks_at_end i.geometry (routines_in program) i.table (opened i) script)

-- a wave of bbops under the order in force, on a chip with these banks
abbrev pub wave_on : Geometry → Routines → Turn → List Named → Banks → List Instruction → ChipWave
wave_on g operations turn table banks wave = record {
  count = g.banks;
  banks = banks;
  events = piece_events g operations turn table (Wave wave);
  queue = wave_queues g operations table wave;
}

-- another instruction, which uses such a chip by itself: a print reads its object's rows
abbrev pub use_on : Geometry → Routines → Turn → List Named → Banks → Instruction → ChipUse
use_on g operations turn table banks instr = and_reading (banks_printed g table instr)
    (doing banks (piece_events g operations turn table (Alone instr)))

-- a wave uses the chip, and then its lines are sent
abbrev pub piece_steps : Geometry → Routines → Turn → List Named → Banks → ℕ → Piece → List Step
piece_steps g operations turn table banks number (Wave wave) =
    UseFor (wave_on g operations turn table banks wave)
    ∷ put_lines number (said_in_rows g operations table banks wave)
piece_steps g operations turn table banks number (Alone instr) =
    line_steps (use_on g operations turn table banks instr) (is_print instr)
    (line number (said_by g operations table banks instr))

-- the steps of pieces, the first line of which has this number
abbrev pub pieces_steps : Geometry → Routines → Turn → List Named → Banks → ℕ → List Piece
    → List Step
pieces_steps g operations turn table banks number [] = []
pieces_steps g operations turn table banks number (piece ∷ rest) =
    piece_steps g operations turn table banks number piece
    ++ pieces_steps g operations (turn_after g operations turn table piece)
    (table_at_end g operations table (instrs_in piece))
    (banks_at_end g operations table banks (instrs_in piece)) (number + length (instrs_in piece))
    rest

-- a script goes by its pieces, at first with each pick the first live bank
abbrev pub script_steps : Program → List Instruction → Image → List Step
script_steps program script i =
    pieces_steps i.geometry (routines_in program) Ahead i.table (opened i) 1 (pieces script)

-- a script is done on an image, the image after it is stored, and the line of the totals is sent
abbrev pub work_steps : List ℕ → Program → List Instruction → Image → List Step
work_steps out program script i =
    opening i ∷ script_steps program script i
    ++ (reading_by program script i ∷ Store out (image_by program script i)
    ∷ Put (total_line (tally_by program script i) (refused_by program script i)) ∷ [])
