-- The guarded word machine, and the machine of rows beside it with its flips and votes.
use Rattle.std.specs.Prelude.{ℕ, ◌+◌, Bool, true, false, if◌then◌else◌, List, [], ◌∷◌, ◌++◌, map}
use Rattle.std.specs.Prelude.{flat_map, take, length}
use Rattle.dram_model.specs.declared.geometry.Geometry.{Geometry}
use Rattle.dram_model.specs.Chip.{Banks, Event}
use Rattle.dram_model.specs.declared.dram.Counters.{Counters}
use Rattle.dram_model.specs.View.{with_reads}
use Rattle.uprog_code.specs.declared.walker.Counts.{Counts}
use Rattle.object_alloc.specs.Listed.{Named}
use Rattle.bbop_isa.specs.declared.instr.Place.{Place}
use Rattle.bbop_isa.specs.Forms.{Instruction}
use Rattle.bbop_isa.specs.Forms.{Init, Bbop, Load, Fill, Print, Free, Order}
use Rattle.wave_model.specs.Schedule.{Turn}
use Rattle.machine_model.specs.declared.Reply.{Reply}
use Rattle.machine_model.specs.declared.Reply.TheVariants.{Done, Refused}
use Rattle.machine_model.specs.Columns.{columns}
use Rattle.machine_model.specs.Routines.{Routines}
use Rattle.machine_model.specs.Refusals.{refusal, rows_of}
use Rattle.machine_model.specs.Steps.{Held, worded, table_after, if_done}
use Rattle.machine_model.specs.Script.{replies, table_at_end, banks_at_end, plus}
use Rattle.machine_model.specs.Script.{is_refused, sum_done, rows_printed, counters_at_end}
use Rattle.machine_model.specs.Script.{with_counts, with_writes}
use Rattle.machine_model.specs.Pieces.{Piece, piece_of, events_of_pieces, turn_at_end}
use Rattle.machine_model.specs.Report.{Said, said_of}
use Rattle.guard_model.specs.declared.Flip.{Flip}
use Rattle.guard_model.specs.Triples.{x_letter, y_letter, z_letter}
use Rattle.guard_model.specs.Flips.{due, all_flipped}
use Rattle.guard_model.specs.Votes.{voted, vote_count}

-- the same part of the copy under one letter
abbrev pub place_on : ℕ → Place → Place
place_on letter place = record { name = letter ∷ place.name; part = place.part }

-- the plain instruction on the copies under one letter
abbrev pub on_copy : ℕ → Instruction → Instruction
on_copy letter (Init name count n) = Init (letter ∷ name) count n
on_copy letter (Bbop op dst srcs count n) =
    Bbop op (place_on letter dst) (map (place_on letter) srcs) count n
on_copy letter (Load place values) = Load (place_on letter place) values
on_copy letter (Fill place value) = Fill (place_on letter place) value
on_copy letter (Print place) = Print (place_on letter place)
on_copy letter (Free name) = Free (letter ∷ name)
on_copy letter (Order order) = Order order

-- the plain instruction on all three copies, in turn
abbrev pub on_copies : Instruction → List Instruction
on_copies instr = on_copy x_letter instr ∷ on_copy y_letter instr ∷ on_copy z_letter instr ∷ []

-- the plain instructions of a guarded one: on the three copies in turn, but a print on the first
-- alone, and an order once
abbrev pub plain_ones : Instruction → List Instruction
plain_ones (Print place) = on_copy x_letter (Print place) ∷ []
plain_ones (Order order) = Order order ∷ []
plain_ones (Init name count n) = on_copies (Init name count n)
plain_ones (Bbop op dst srcs count n) = on_copies (Bbop op dst srcs count n)
plain_ones (Load place values) = on_copies (Load place values)
plain_ones (Fill place value) = on_copies (Fill place value)
plain_ones (Free name) = on_copies (Free name)

-- the first refusal, or the sum of the counts
abbrev pub joined : Counts → List Reply → Reply
joined counts [] = Done counts
joined counts (Done more ∷ rest) = joined (plus counts more) rest
joined counts (Refused reason ∷ rest) = Refused reason

-- the reply to a guarded instruction: the row commands of all its copies, or the first refusal
abbrev pub guarded_reply : Geometry → Routines → List Named → Instruction → Reply
guarded_reply g operations table instr =
    joined (record { aap = 0; ap = 0 }) (replies g operations table (plain_ones instr))

-- the plain instructions before the first that is refused
abbrev pub done_ones : Geometry → Routines → List Named → List Instruction → List Instruction
done_ones g operations table [] = []
done_ones g operations table (instr ∷ rest) = if_done (refusal g operations table instr)
    (instr ∷ done_ones g operations (table_after g operations table instr) rest) []

-- the instruction adds an object
abbrev pub adds : Instruction → Bool
adds (Init name count n) = true
adds (Bbop op dst srcs count n) = false
adds (Load place values) = false
adds (Fill place value) = false
adds (Print place) = false
adds (Free name) = false
adds (Order order) = false

-- what takes back the object that an instruction has added
abbrev pub removal : Instruction → List Instruction
removal (Init name count n) = Free name ∷ []
removal (Bbop op dst srcs count n) = []
removal (Load place values) = []
removal (Fill place value) = []
removal (Print place) = []
removal (Free name) = []
removal (Order order) = []

-- the plain script that a guarded instruction comes to: those that are done, and, where one is
-- refused, the removal of the copies that they added
abbrev pub plain_script : Geometry → Routines → List Named → Instruction → List Instruction
plain_script g operations table instr =
    let done = done_ones g operations table (plain_ones instr) in
    if is_refused (guarded_reply g operations table instr)
    then done ++ flat_map removal done else done

-- the table of objects after a guarded instruction
abbrev pub guarded_table : Geometry → Routines → List Named → Instruction → List Named
guarded_table g operations table instr =
    table_at_end g operations table (plain_script g operations table instr)

-- the banks after a guarded instruction
abbrev pub guarded_rows : Geometry → Routines → List Named → Banks → Instruction → Banks
guarded_rows g operations table banks instr =
    banks_at_end g operations table banks (plain_script g operations table instr)

-- the pieces of a guarded instruction are its plain ones one by one, a bbop as a wave of one
abbrev pub guarded_pieces : Geometry → Routines → List Named → Instruction → List Piece
guarded_pieces g operations table instr = map piece_of (plain_script g operations table instr)

-- the events of a guarded instruction under the order in force
abbrev pub guarded_events : Geometry → Routines → Turn → List Named → Instruction → List Event
guarded_events g operations turn table instr =
    events_of_pieces g operations turn table (guarded_pieces g operations table instr)

-- the order in force after a guarded instruction
abbrev pub guarded_turn : Geometry → Routines → Turn → List Named → Instruction → Turn
guarded_turn g operations turn table instr =
    turn_at_end g operations turn table (guarded_pieces g operations table instr)

-- how many data rows a guarded instruction reads
abbrev pub guarded_reads : Geometry → Routines → List Named → Instruction → ℕ
guarded_reads g operations table instr =
    sum_done rows_printed g operations table (plain_script g operations table instr)

-- what is said of a guarded instruction: of a print the values in the first copy's columns
abbrev pub guarded_said_by : Geometry → Routines → List Named → Banks → Instruction → Said
guarded_said_by g operations table banks instr =
    said_of (guarded_reply g operations table instr) instr (λ place.
    let o = rows_of table (place_on x_letter place) in take o.count (columns g banks o))

-- the flips of k, and then the votes
abbrev pub mended : Geometry → List Flip → ℕ → List Named → Banks → Banks
mended g flips k table banks = voted g table (all_flipped (due k flips) banks)

-- Whole scripts, of which the first instruction has number k

-- the replies to a guarded script: they depend on the table alone
abbrev pub guarded_replies : Geometry → Routines → List Named → List Instruction → List Reply
guarded_replies g operations table [] = []
guarded_replies g operations table (instr ∷ script) =
    guarded_reply g operations table instr
    ∷ guarded_replies g operations (guarded_table g operations table instr) script

-- the table of objects after a guarded script
abbrev pub guarded_table_at_end : Geometry → Routines → List Named → List Instruction
    → List Named
guarded_table_at_end g operations table [] = table
guarded_table_at_end g operations table (instr ∷ script) =
    guarded_table_at_end g operations (guarded_table g operations table instr) script

-- the plain script that a guarded script comes to: the chip's counters count it
abbrev pub whole_script : Geometry → Routines → List Named → List Instruction
    → List Instruction
whole_script g operations table [] = []
whole_script g operations table (instr ∷ script) =
    plain_script g operations table instr
    ++ whole_script g operations (guarded_table g operations table instr) script

-- the commands of all votes, one before each instruction and one after the last
abbrev pub votes_at_end : Geometry → Routines → List Named → List Instruction → ℕ
votes_at_end g operations table [] = vote_count g table
votes_at_end g operations table (instr ∷ script) =
    vote_count g table + votes_at_end g operations (guarded_table g operations table instr) script

-- the counters: the plain instructions that are done, the votes, and a read and a write for each
-- flip
abbrev pub guarded_tally : Geometry → Routines → List Named → List Instruction → List Flip
    → Counters → Counters
guarded_tally g operations table script flips k =
    let plain = whole_script g operations table script in
    let votes : Counts = record { aap = votes_at_end g operations table script; ap = 0 } in
    with_reads (sum_done rows_printed g operations table plain + length flips)
    (with_writes (length flips) (with_counts (counters_at_end g operations table plain k) votes))

-- the banks after a guarded script: for each instruction the flips, the votes and its own commands,
-- and after the last the flips and votes once more
abbrev pub guarded_rows_at_end : Geometry → Routines → List Flip → ℕ → List Named → Banks
    → List Instruction → Banks
guarded_rows_at_end g operations flips k table banks [] = mended g flips k table banks
guarded_rows_at_end g operations flips k table banks (instr ∷ script) =
    guarded_rows_at_end g operations flips (k + 1) (guarded_table g operations table instr)
    (guarded_rows g operations table (mended g flips k table banks) instr) script

-- what is said of a guarded script, where the values are read from the banks' columns
abbrev pub guarded_said_in_rows : Geometry → Routines → List Flip → ℕ → List Named → Banks
    → List Instruction → List Said
guarded_said_in_rows g operations flips k table banks [] = []
guarded_said_in_rows g operations flips k table banks (instr ∷ script) =
    let now = mended g flips k table banks in
    guarded_said_by g operations table now instr
    ∷ guarded_said_in_rows g operations flips (k + 1) (guarded_table g operations table instr)
    (guarded_rows g operations table now instr) script

-- the word machine on one copy, for an instruction of a guarded run with this table of copies
abbrev pub lone_words : Geometry → Routines → (List ℕ → ℕ → List ℕ → List ℕ) → List Named
    → List Held → Instruction → List Held
lone_words g operations meaning table state instr =
    if is_refused (guarded_reply g operations table instr) then state
    else worded g operations meaning state instr

-- and for a script
abbrev pub lone_words_at_end : Geometry → Routines → (List ℕ → ℕ → List ℕ → List ℕ)
    → List Named → List Held → List Instruction → List Held
lone_words_at_end g operations meaning table state [] = state
lone_words_at_end g operations meaning table state (instr ∷ script) =
    lone_words_at_end g operations meaning (guarded_table g operations table instr)
    (lone_words g operations meaning table state instr) script
