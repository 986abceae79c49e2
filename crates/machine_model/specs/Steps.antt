-- The word machine, and the machine of rows beside it.
use Rattle.std.specs.Prelude.{ℕ, ◌+◌, ◌*◌, nat_lt, nat_le, Bool, false, not, ◌&&◌, ◌||◌}
use Rattle.std.specs.Prelude.{if◌then◌else◌, List, [], ◌∷◌, ◌++◌, map, flat_map, filter, replicate}
use Rattle.std.specs.Prelude.{slice_index, Option, Some, None}
use Rattle.std.specs.List.{range_with_len, find, list_any}
use Rattle.std.specs.Option.{unwrap_or, option_map}
use Rattle.std.specs.Str.{bytes_eq}
use Rattle.dram_model.specs.declared.geometry.Geometry.{Geometry}
use Rattle.dram_model.specs.declared.address.Command.{Command}
use Rattle.dram_model.specs.declared.address.Command.TheVariants.{Aap}
use Rattle.dram_model.specs.declared.address.Addr.TheVariants as addr
use Rattle.bit_rows.specs.Bits.{bit_at, bit_number}
use Rattle.dram_model.specs.Column.{run}
use Rattle.dram_model.specs.Chip.{Banks, Event, after}
use Rattle.dram_model.specs.Chip.Event.{Row, Write}
use Rattle.dram_model.specs.Events.{row_events}
use Rattle.uprog_code.specs.declared.walker.Counts.{Counts}
use Rattle.uprog_code.specs.Shape.{Shape, need}
use Rattle.uprog_code.specs.Bound.{Bound, bound}
use Rattle.uprog_code.specs.Machine.{Issue, issues_of}
use Rattle.uprog_code.specs.Count.{counts_of}
use Rattle.object_alloc.specs.declared.table.Object.{Object}
use Rattle.object_alloc.specs.Free.{free, has_row}
use Rattle.object_alloc.specs.Listed.{Named, objects_of, without}
use Rattle.bbop_isa.specs.Forms.{Instruction}
use Rattle.bbop_isa.specs.declared.instr.Place.{Place}
use Rattle.bbop_isa.specs.Forms.{Init, Bbop, Load, Fill, Print, Free, Order}
use Rattle.machine_model.specs.declared.Reply.{Reply}
use Rattle.machine_model.specs.declared.Reply.TheVariants.{Done, Refused}
use Rattle.machine_model.specs.declared.Why.{Why}
use Rattle.machine_model.specs.Columns.{each_row, object_size, segments}
use Rattle.dram_model.specs.Elements.{padded_to, row_bits}
use Rattle.machine_model.specs.Routines.{Routine, Routines}
use Rattle.object_alloc.specs.Listed.{limit_of}
use Rattle.machine_model.specs.Refusals.{refusal, rows_of, dsts_in, srcs_in}
use Rattle.machine_model.specs.Places.{seen, put_all}
use Rattle.wave_model.specs.Schedule.{WaveJob}

-- an object with the numbers of its columns
pub record Held : Type 0 where
  pub name : List ℕ
  pub object : Object
  pub numbers : List ℕ

-- the objects without their numbers
abbrev pub table_of : List Held → List Named
table_of state = map (λ h. (h.name, h.object)) state

-- the numbers of the object with this name
abbrev pub numbers_named : List Held → List ℕ → List ℕ
numbers_named state name =
    unwrap_or (option_map (λ h. h.numbers) (find (λ h. bytes_eq h.name name) state)) []

-- the numbers of an operand
abbrev pub numbers_at : List Held → Place → List ℕ
numbers_at state place = map (seen place.part) (numbers_named state place.name)

-- where so many rows begin that are free
abbrev pub base_for : Geometry → List Named → ℕ → ℕ
base_for g table k = unwrap_or (free (limit_of g) (objects_of table) k) 0

-- the object that is new
abbrev pub new_object : Geometry → List Named → ℕ → ℕ → Object
new_object g table count n = record { base = base_for g table n; width = n; count = count }

-- each number is the meaning of the sources' numbers at its place
abbrev pub computed : (List ℕ → ℕ) → List (List ℕ) → ℕ → List ℕ
computed meaning sources size = map (λ e. meaning (map (λ numbers. slice_index numbers e) sources))
    (range_with_len 0 size)

-- the destinations of a bbop, where there is the operation
abbrev pub dsts_of : Option Routine → List Place → List Place
dsts_of None places = []
dsts_of (Some operation) places = dsts_in operation.shape places

-- the sources of a bbop, where there is the operation
abbrev pub srcs_of : Option Routine → List Place → List Place
srcs_of None places = []
srcs_of (Some operation) places = srcs_in operation.shape places

-- the numbers of an object of this name, with the part of each destination that is in it replaced
-- by the result at its place
abbrev pub new_numbers : (ℕ → List ℕ) → ℕ → List Place → List ℕ → List ℕ → List ℕ
new_numbers result k [] name numbers = numbers
new_numbers result k (dst ∷ dsts) name numbers = new_numbers result (k + 1) dsts name
    (if bytes_eq name dst.name then put_all dst.part numbers (result k) else numbers)

-- the objects with these results in the destinations
abbrev pub with_results : List Held → (ℕ → List ℕ) → List Place → List Held
with_results state result dsts = map (λ (h : Held). record {
  name = h.name;
  object = h.object;
  numbers = new_numbers result 0 dsts h.name h.numbers;
}) state

-- what an instruction that is done makes of the numbers
abbrev pub worded : Geometry → Routines → (List ℕ → ℕ → List ℕ → List ℕ) → List Held → Instruction
    → List Held
worded g operations meaning state (Init name count n) =
    let o = new_object g (table_of state) count n in
    state ++ record { name = name; object = o; numbers = replicate (object_size g o) 0 } ∷ []
worded g operations meaning state (Bbop op dst srcs count n) =
    let places = dst ∷ srcs in
    let values = map (numbers_at state) (srcs_of (operations op) places) in
    let size = object_size g (rows_of (table_of state) dst) in
    with_results state (λ k. computed (λ vs. slice_index (meaning op n vs) k) values size)
    (dsts_of (operations op) places)
worded g operations meaning state (Load place values) =
    with_results state (λ k. padded_to (object_size g (rows_of (table_of state) place)) values)
    (place ∷ [])
worded g operations meaning state (Fill place value) =
    with_results state (λ k. replicate (object_size g (rows_of (table_of state) place)) value)
    (place ∷ [])
worded g operations meaning state (Print place) = state
worded g operations meaning state (Free name) = filter (λ h. not (bytes_eq h.name name)) state
worded g operations meaning state (Order order) = state

-- the word machine's step: a refusal leaves the state
abbrev pub if_done : {S : Type 0} → Option Why → S → S → S
if_done None done refused = done
if_done (Some reason) done refused = refused

-- the word machine's step
abbrev pub words_after : Geometry → Routines → (List ℕ → ℕ → List ℕ → List ℕ) → List Held
    → Instruction → List Held
words_after g operations meaning state instr =
    if_done (refusal g operations (table_of state) instr) (worded g operations meaning state instr)
    state

-- the table alone goes the same way
abbrev pub tabled : Geometry → List Named → Instruction → List Named
tabled g table (Init name count n) = table ++ (name, new_object g table count n) ∷ []
tabled g table (Free name) = without table name
tabled g table (Bbop op dst srcs count n) = table
tabled g table (Load place values) = table
tabled g table (Fill place value) = table
tabled g table (Print place) = table
tabled g table (Order order) = table

-- the table after an instruction, which a refusal leaves
abbrev pub table_after : Geometry → Routines → List Named → Instruction → List Named
table_after g operations table instr = if_done (refusal g operations table instr)
    (tabled g table instr) table

-- the binding of a bbop: the first rows of its operands, and scratch at the least base
abbrev pub binding : Geometry → List Named → Shape → List Place → ℕ → Bound
binding g table shape places n = record {
  results = map (λ p. (rows_of table p).base) (dsts_in shape places);
  sources = map (λ p. (rows_of table p).base) (srcs_in shape places);
  scratch = base_for g table (need shape n);
}

-- the commands of an operation at a width
abbrev pub issues_at : Option Routine → ℕ → List Issue
issues_at None n = []
issues_at (Some operation) n = issues_of (operation.trace n)

-- a bbop's commands on a bank, with the rows of its operands
abbrev pub bound_at : Geometry → List Named → Option Routine → List Place → ℕ → List Command
bound_at g table None places n = []
bound_at g table (Some operation) places n = bound g.rows operation.shape n
    (binding g table operation.shape places n) (issues_of (operation.trace n))

-- the commands of a bbop in one bank, and how many banks do them
abbrev pub job_of : Geometry → Routines → List Named → Instruction → WaveJob
job_of g operations table (Bbop op dst srcs count n) = record {
  commands = bound_at g table (operations op) (dst ∷ srcs) n;
  banks = segments g (rows_of table dst);
}
job_of g operations table (Init name count n) = record { commands = []; banks = 0 }
job_of g operations table (Load place values) = record { commands = []; banks = 0 }
job_of g operations table (Fill place value) = record { commands = []; banks = 0 }
job_of g operations table (Print place) = record { commands = []; banks = 0 }
job_of g operations table (Free name) = record { commands = []; banks = 0 }
job_of g operations table (Order order) = record { commands = []; banks = 0 }

-- a row of zeros or ones
abbrev pub fill_events : Geometry → Object → ℕ → List Event
fill_events g o value = each_row g o (λ bank k.
    Row bank (Aap (addr.C (bit_number (bit_at value k))) (addr.D (o.base + k))))

-- the host writes of a load: a row for each bit of the width in each bank of the object
abbrev pub load_events : Geometry → Object → List ℕ → List Event
load_events g o values = each_row g o (λ bank k.
    Write bank (o.base + k) (row_bits g (padded_to (object_size g o) values) bank k))

-- the events of an instruction that is done by itself
abbrev pub own_events : Geometry → List Named → Instruction → List Event
own_events g table (Init name count n) = fill_events g (new_object g table count n) 0
own_events g table (Load place values) = load_events g (rows_of table place) values
own_events g table (Fill place value) = fill_events g (rows_of table place) value
own_events g table (Bbop op dst srcs count n) = []
own_events g table (Print place) = []
own_events g table (Free name) = []
own_events g table (Order order) = []

-- the events of a job, bank by bank
abbrev pub job_events : WaveJob → List Event
job_events job = flat_map (λ bank. row_events bank job.commands) (range_with_len 0 job.banks)

-- the events of an instruction that is done
abbrev pub events_of : Geometry → Routines → List Named → Instruction → List Event
events_of g operations table instr = job_events (job_of g operations table instr)
    ++ own_events g table instr

-- each column of the first banks goes through the commands, and the other banks stay
abbrev pub through : WaveJob → Banks → Banks
through job banks = λ bank. if nat_lt bank job.banks then map (run job.commands) (banks bank)
    else banks bank

-- the banks after an instruction that is done
abbrev pub rowed : Geometry → Routines → List Named → Banks → Instruction → Banks
rowed g operations table banks instr = after (own_events g table instr)
    (through (job_of g operations table instr) banks)

-- the banks after an instruction, which a refusal leaves
abbrev pub banks_after : Geometry → Routines → List Named → Banks → Instruction → Banks
banks_after g operations table banks instr = if_done (refusal g operations table instr)
    (rowed g operations table banks instr) banks

-- how many row commands are done
abbrev pub times : ℕ → Counts → Counts
times k c = record { aap = k * c.aap; ap = k * c.ap }

-- the row commands of an instruction that is done, over all banks that do them
abbrev pub counts_for : Geometry → Routines → List Named → Instruction → Counts
counts_for g operations table (Init name count n) =
    record { aap = n * segments g (new_object g table count n); ap = 0 }
counts_for g operations table (Bbop op dst srcs count n) =
    times (segments g (rows_of table dst)) (counts_of (issues_at (operations op) n))
counts_for g operations table (Fill place value) = let o = rows_of table place in
    record { aap = o.width * segments g o; ap = 0 }
counts_for g operations table (Load place values) = record { aap = 0; ap = 0 }
counts_for g operations table (Print place) = record { aap = 0; ap = 0 }
counts_for g operations table (Free name) = record { aap = 0; ap = 0 }
counts_for g operations table (Order order) = record { aap = 0; ap = 0 }

-- the reply to an instruction with these counts, or its refusal
abbrev pub reply_by : Option Why → Counts → Reply
reply_by None counts = Done counts
reply_by (Some reason) counts = Refused reason

-- the reply: the first condition that holds, or the counts
abbrev pub reply_to : Geometry → Routines → List Named → Instruction → Reply
reply_to g operations table instr = reply_by (refusal g operations table instr)
    (counts_for g operations table instr)

-- the row is one of the object's, in one of its banks
abbrev pub has_row_in : Geometry → Object → ℕ → ℕ → Bool
has_row_in g o bank row = nat_lt bank (segments g o) && has_row o row

-- the row is one of so many from a base on
abbrev pub is_among : ℕ → ℕ → ℕ → Bool
is_among base size row = nat_le base row && nat_lt row (base + size)

-- the scratch that a bbop takes, and the spill group
abbrev pub is_beside : Geometry → List Named → Option Routine → ℕ → ℕ → Bool
is_beside g table None n row = false
is_beside g table (Some operation) n row = is_among (base_for g table (need operation.shape n))
    (need operation.shape n) row || is_among (limit_of g) 32 row

-- the rows that an instruction that is done may change: its operand's, and of a bbop those of its
-- destinations, its scratch and the spill group
abbrev pub touches : Geometry → Routines → List Named → Instruction → ℕ → ℕ → Bool
touches g operations table (Init name count n) bank row =
    has_row_in g (new_object g table count n) bank row
touches g operations table (Bbop op dst srcs count n) bank row =
    nat_lt bank (segments g (rows_of table dst))
    && (list_any (λ p. has_row (rows_of table p) row)
    (dsts_of (operations op) (dst ∷ srcs)) || is_beside g table (operations op) n row)
touches g operations table (Load place values) bank row =
    has_row_in g (rows_of table place) bank row
touches g operations table (Fill place value) bank row =
    has_row_in g (rows_of table place) bank row
touches g operations table (Print place) bank row = false
touches g operations table (Free name) bank row = false
touches g operations table (Order order) bank row = false

-- an instruction may change the row; a refused one changes none
abbrev pub is_touched : Geometry → Routines → List Named → Instruction → ℕ → ℕ → Bool
is_touched g operations table instr bank row =
    if_done (refusal g operations table instr) (touches g operations table instr bank row) false
