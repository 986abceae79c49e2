-- A whole script: its replies, its state at the end, and its events.
use Rattle.std.specs.Prelude.{ℕ, ◌+◌, ◌*◌, Bool, true, false, ◌||◌, is_none, if◌then◌else◌, List}
use Rattle.std.specs.Prelude.{[], ◌∷◌, ◌++◌}
use Rattle.dram_model.specs.declared.geometry.Geometry.{Geometry}
use Rattle.dram_model.specs.Chip.{Banks, Event}
use Rattle.dram_model.specs.declared.dram.Counters.{Counters}
use Rattle.uprog_code.specs.declared.walker.Counts.{Counts}
use Rattle.object_alloc.specs.Listed.{Named}
use Rattle.bbop_isa.specs.Forms.{Instruction}
use Rattle.bbop_isa.specs.Forms.{Init, Bbop, Load, Fill, Print, Free, Order}
use Rattle.machine_model.specs.declared.Reply.{Reply}
use Rattle.machine_model.specs.declared.Reply.TheVariants.{Done, Refused}
use Rattle.machine_model.specs.Columns.{segments}
use Rattle.machine_model.specs.Routines.{Routines}
use Rattle.machine_model.specs.Refusals.{refusal, rows_of}
use Rattle.machine_model.specs.Steps.{Held, words_after, table_after, banks_after, reply_to}
use Rattle.machine_model.specs.Steps.{events_of, if_done, is_touched}

-- the instruction runs an operation, and may stand in a wave
abbrev pub is_bbop : Instruction → Bool
is_bbop (Init name count n) = false
is_bbop (Bbop op dst srcs count n) = true
is_bbop (Load name values) = false
is_bbop (Fill name value) = false
is_bbop (Print name) = false
is_bbop (Free name) = false
is_bbop (Order o) = false

-- the replies, in order: they depend on the table alone
abbrev pub replies : Geometry → Routines → List Named → List Instruction → List Reply
replies g operations table [] = []
replies g operations table (instr ∷ script) =
    reply_to g operations table instr ∷ replies g operations (table_after g operations table instr)
    script

-- the table of objects after a script
abbrev pub table_at_end : Geometry → Routines → List Named → List Instruction → List Named
table_at_end g operations table [] = table
table_at_end g operations table (instr ∷ script) =
    table_at_end g operations (table_after g operations table instr) script

-- the word machine's state
abbrev pub words_at_end : Geometry → Routines → (List ℕ → ℕ → List ℕ → List ℕ) → List Held
    → List Instruction → List Held
words_at_end g operations meaning state [] = state
words_at_end g operations meaning state (instr ∷ script) =
    words_at_end g operations meaning (words_after g operations meaning state instr) script

-- the banks
abbrev pub banks_at_end : Geometry → Routines → List Named → Banks → List Instruction → Banks
banks_at_end g operations table banks [] = banks
banks_at_end g operations table banks (instr ∷ script) =
    banks_at_end g operations (table_after g operations table instr)
    (banks_after g operations table banks instr) script

-- some instruction that is done may change the row
abbrev pub is_touched_by : Geometry → Routines → List Named → List Instruction → ℕ → ℕ → Bool
is_touched_by g operations table [] bank row = false
is_touched_by g operations table (instr ∷ script) bank row =
    is_touched g operations table instr bank row
    || is_touched_by g operations (table_after g operations table instr) script bank row

-- the events of the instructions that are done, one instruction after another, bank by bank
abbrev pub events_in_order : Geometry → Routines → List Named → List Instruction → List Event
events_in_order g operations table [] = []
events_in_order g operations table (instr ∷ script) =
    if_done (refusal g operations table instr) (events_of g operations table instr) []
    ++ events_in_order g operations (table_after g operations table instr) script

-- the commands that the replies count
abbrev pub plus : Counts → Counts → Counts
plus a b = record { aap = a.aap + b.aap; ap = a.ap + b.ap }

-- the row commands that a reply tells; of a refused instruction none
abbrev pub counted_in : Reply → Counts
counted_in (Done counts) = counts
counted_in (Refused reason) = record { aap = 0; ap = 0 }

-- the row commands that all replies tell
abbrev pub sum_of : List Reply → Counts
sum_of [] = record { aap = 0; ap = 0 }
sum_of (reply ∷ rest) = plus (counted_in reply) (sum_of rest)

-- a chip's counters after so many row commands more
abbrev pub with_counts : Counters → Counts → Counters
with_counts k counts = record k { aap = k.aap + counts.aap; ap = k.ap + counts.ap }

-- and after so many rows more that the host wrote
abbrev pub with_writes : ℕ → Counters → Counters
with_writes n k = record k { writes = k.writes + n }

-- the reply is a refusal: what `run` tells by its status
abbrev pub is_refused : Reply → Bool
is_refused (Done counts) = false
is_refused (Refused reason) = true

-- the rows that done loads write and done prints read
abbrev pub rows_loaded : Geometry → List Named → Instruction → ℕ
rows_loaded g table (Load place values) = let o = rows_of table place in o.width * segments g o
rows_loaded g table (Init name count n) = 0
rows_loaded g table (Bbop op dst srcs count n) = 0
rows_loaded g table (Fill place value) = 0
rows_loaded g table (Print place) = 0
rows_loaded g table (Free name) = 0
rows_loaded g table (Order o) = 0

-- the data rows that a print reads, in all banks of its object
abbrev pub rows_printed : Geometry → List Named → Instruction → ℕ
rows_printed g table (Print place) = let o = rows_of table place in o.width * segments g o
rows_printed g table (Load place values) = 0
rows_printed g table (Init name count n) = 0
rows_printed g table (Bbop op dst srcs count n) = 0
rows_printed g table (Fill place value) = 0
rows_printed g table (Free name) = 0
rows_printed g table (Order o) = 0

-- and in how many banks it reads them
abbrev pub banks_printed : Geometry → List Named → Instruction → ℕ
banks_printed g table (Print place) = segments g (rows_of table place)
banks_printed g table (Load place values) = 0
banks_printed g table (Init name count n) = 0
banks_printed g table (Bbop op dst srcs count n) = 0
banks_printed g table (Fill place value) = 0
banks_printed g table (Free name) = 0
banks_printed g table (Order o) = 0

-- the rows of one instruction, where it is done
abbrev pub rows_if_done : (Geometry → List Named → Instruction → ℕ) → Geometry → Routines
    → List Named → Instruction → ℕ
rows_if_done rows g operations table instr =
    if is_none (refusal g operations table instr) then rows g table instr else 0

-- summed over the instructions that are done
abbrev pub sum_done : (Geometry → List Named → Instruction → ℕ) → Geometry → Routines → List Named
    → List Instruction → ℕ
sum_done rows g operations table [] = 0
sum_done rows g operations table (instr ∷ script) =
    rows_if_done rows g operations table instr
    + sum_done rows g operations (table_after g operations table instr) script

-- a chip's counters after the instructions that are done: the row commands that the replies count,
-- and a host write for each row that is loaded
abbrev pub counters_at_end : Geometry → Routines → List Named → List Instruction → Counters
    → Counters
counters_at_end g operations table script k =
    with_writes (sum_done rows_loaded g operations table script)
    (with_counts k (sum_of (replies g operations table script)))
