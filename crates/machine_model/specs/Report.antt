-- The report of a run, as bytes.
use Rattle.std.specs.Prelude.{ℕ, ◌+◌, ◌==◌, if◌then◌else◌, Option, Some, None, List, [], ◌∷◌, ◌++◌}
use Rattle.std.specs.Prelude.{flat_map, take, codes, decimal, count_by}
use Rattle.dram_model.specs.declared.geometry.Geometry.{Geometry}
use Rattle.dram_model.specs.declared.dram.Counters.{Counters}
use Rattle.uprog_code.specs.declared.walker.Why3.{Why3}
use Rattle.uprog_code.specs.declared.walker.Why3.TheVariants.{Index, Register, Budget}
use Rattle.object_alloc.specs.Listed.{Named}
use Rattle.bbop_isa.specs.Forms.{Instruction}
use Rattle.bbop_isa.specs.declared.instr.Part.{Part}
use Rattle.bbop_isa.specs.declared.instr.Place.{Place}
use Rattle.bbop_isa.specs.Forms.{Init, Bbop, Load, Fill, Print, Free, Order}
use Rattle.machine_model.specs.declared.Reply.{Reply}
use Rattle.machine_model.specs.declared.Reply.TheVariants.{Done, Refused}
use Rattle.machine_model.specs.declared.Why.{Why}
use Rattle.machine_model.specs.declared.Why.TheVariants as why
use Rattle.machine_model.specs.Routines.{Routines}
use Rattle.machine_model.specs.Refusals.{rows_of}
use Rattle.dram_model.specs.Chip.{Banks}
use Rattle.machine_model.specs.Columns.{columns}
use Rattle.machine_model.specs.Steps.{Held, table_of, numbers_at, words_after, reply_to}
use Rattle.machine_model.specs.Steps.{table_after, banks_after}
use Rattle.machine_model.specs.Script.{is_refused}

-- the word of the report for what makes a walk stuck
abbrev pub walk_word : Why3 → List ℕ
walk_word Index = codes "index"
walk_word Register = codes "register"
walk_word Budget = codes "budget"

-- a word with the place that it speaks of
abbrev pub at_number : List ℕ → ℕ → List ℕ
at_number word place = word ++ codes " " ++ decimal place

-- why it is refused, with the place where there is one
abbrev pub why_text : Why → List ℕ
why_text why.NoOp = codes "no_op"
why_text why.Arity = codes "arity"
why_text (why.NoObject place) = at_number (codes "no_object") place
why_text (why.Slice place) = at_number (codes "slice") place
why_text (why.Width place) = at_number (codes "width") place
why_text (why.Size place) = at_number (codes "size") place
why_text (why.Overlap place) = at_number (codes "overlap") place
why_text (why.BadWalk walk) = at_number (codes "bad_walk") walk.at ++ codes " "
    ++ walk_word walk.why
why_text why.NoRows = codes "no_rows"
why_text why.Exists = codes "exists"
why_text why.TableFull = codes "table_full"
why_text why.TooLarge = codes "too_large"
why_text why.Count = codes "count"
why_text (why.Range place) = at_number (codes "range") place

-- the part of an operand as a script has it: [K], or [LO:HI] of more than one bit
abbrev pub part_text : Option Part → List ℕ
part_text None = []
part_text (Some p) = codes "[" ++ decimal p.low
    ++ (if p.size == 1 then [] else codes ":" ++ decimal (p.low + p.size)) ++ codes "]"

-- an operand as a script has it
abbrev pub place_text : Place → List ℕ
place_text place = place.name ++ part_text place.part

-- what is said of an instruction: an operand that is printed and its values, or the reply
pub data Said : Type 0 where
  Printed : (operand values : List ℕ) → Said
  Answered : Reply → Said

-- what is said of a done instruction: of a print its values, of others their counts
abbrev pub said_of : Reply → Instruction → (Place → List ℕ) → Said
said_of (Done counts) (Print place) values = Printed (place_text place) (values place)
said_of (Done counts) (Init name count n) values = Answered (Done counts)
said_of (Done counts) (Bbop op dst srcs count n) values = Answered (Done counts)
said_of (Done counts) (Load place loaded) values = Answered (Done counts)
said_of (Done counts) (Fill place value) values = Answered (Done counts)
said_of (Done counts) (Free name) values = Answered (Done counts)
said_of (Done counts) (Order o) values = Answered (Done counts)
said_of (Refused reason) instr values = Answered (Refused reason)

-- the counts of a done instruction, or why it was refused
abbrev pub reply_text : Reply → List ℕ
reply_text (Done counts) = codes "ok aap=" ++ decimal counts.aap ++ codes " ap="
    ++ decimal counts.ap
reply_text (Refused reason) = codes "refused " ++ why_text reason

-- a line without its number
abbrev pub said_text : Said → List ℕ
said_text (Printed operand values) = operand ++ codes ":"
    ++ flat_map (λ v. codes " " ++ decimal v) values
said_text (Answered reply) = reply_text reply

-- the line with this number
abbrev pub line : ℕ → Said → List ℕ
line number said = decimal number ++ codes " " ++ said_text said ++ codes "\n"

-- a line for each, the first of which has this number
abbrev pub lines : ℕ → List Said → List ℕ
lines number [] = []
lines number (said ∷ rest) = line number said ++ lines (number + 1) rest

-- what the word machine says of a script
abbrev pub said_in_words : Geometry → Routines → (List ℕ → ℕ → List ℕ → List ℕ) → List Held
    → List Instruction → List Said
said_in_words g operations meaning state [] = []
said_in_words g operations meaning state (instr ∷ script) =
    said_of (reply_to g operations (table_of state) instr) instr
    (λ place. take (rows_of (table_of state) place).count (numbers_at state place))
    ∷ said_in_words g operations meaning (words_after g operations meaning state instr) script

-- what is said of one instruction, where the values are read from the banks' columns
abbrev pub said_by : Geometry → Routines → List Named → Banks → Instruction → Said
said_by g operations table banks instr = said_of (reply_to g operations table instr) instr
    (λ place. take (rows_of table place).count (columns g banks (rows_of table place)))

-- the same of a script
abbrev pub said_in_rows : Geometry → Routines → List Named → Banks → List Instruction → List Said
said_in_rows g operations table banks [] = []
said_in_rows g operations table banks (instr ∷ script) =
    said_by g operations table banks instr
    ∷ said_in_rows g operations (table_after g operations table instr)
    (banks_after g operations table banks instr) script

-- the line of the totals
abbrev pub total_line : Counters → ℕ → List ℕ
total_line tally refused =
    codes "total aap=" ++ decimal tally.aap ++ codes " ap=" ++ decimal tally.ap ++ codes " writes="
    ++ decimal tally.writes
    ++ codes " reads=" ++ decimal tally.reads ++ codes " refused=" ++ decimal refused ++ codes "\n"

-- the report: a line for each instruction, and the line of the totals
abbrev pub report : List Said → Counters → List Reply → List ℕ
report said tally all = lines 1 said ++ total_line tally (count_by is_refused all)
