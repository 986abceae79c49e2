-- What plain instructions do to a machine and its chip, for the proofs of guarded steps.
use Rattle.std.specs.Prelude.{◌≡◌, ℕ, ◌*◌, ◌<◌, ◌^◌, ◌++◌, Bool, true, false, List, [], ◌∷◌}
use Rattle.std.specs.Prelude.{map, None, Result, Ok, Err}
use Rattle.host_edge.specs.Views.{SinkView, Known, AppendsPart}
use Rattle.faults.specs.Counts.{Rose}
use Rattle.dram_model.specs.declared.geometry.Geometry.{Geometry}
use Rattle.dram_model.specs.declared.dram.Counters.{Counters}
use Rattle.dram_model.specs.Chip.{Banks, Event}
use Rattle.dram_model.specs.View.{ChipView}
use Rattle.transpose_unit.specs.Stopped.{StoppedWithin}
use Rattle.wave_model.specs.Schedule.{Turn}
use Rattle.object_alloc.specs.Listed.{Named}
use Rattle.bbop_isa.specs.Forms.{Instruction}
use Rattle.bbop_isa.specs.Forms.{Init, Bbop, Load, Fill, Print, Free, Order}
use Rattle.machine_model.specs.declared.Reply.{Reply}
use Rattle.uprog_code.specs.declared.TheConstants.{WALK_MAX}
use Rattle.machine_model.specs.Routines.{Program, routines_in}
use Rattle.machine_model.specs.Steps.{reply_to}
use Rattle.object_steps.specs.Lines.{DidReadAtMost}
use Rattle.object_steps.specs.Objects.{RisesAtMost}
use Rattle.object_steps.specs.declared.fault.StepFault.{StepFault}
use Rattle.object_steps.specs.declared.fault.StepFault.TheVariants.{ChipFault, WriteFault}
use Rattle.machine_model.specs.Pieces.{piece_of, events_of_pieces, turn_at_end}
use Rattle.machine_model.specs.Report.{line}
use Rattle.machine_model.specs.Script.{banks_printed, table_at_end, sum_done, rows_printed}
use Rattle.sim_machine.specs.declared.machine.Machine.{Machine}
use Rattle.sim_machine.specs.Machine.{geometry_of, is_print, operations_by, program_of}
use Rattle.sim_machine.specs.Machine.{table_in, turn_in}
use Rattle.sim_machine.specs.Steps.{DidAndRead}
use Rattle.guard_model.specs.Guarded.{guarded_reply, guarded_table, guarded_turn, guarded_events}
use Rattle.guard_model.specs.Guarded.{guarded_reads, guarded_said_by, on_copy, plain_script}
use Rattle.guard_model.specs.Triples.{x_letter}
use Rattle.tmr_guard.specs.declared.guards.Guard.{Guard}

-- the machine that does a guard's plain instructions
abbrev pub machine_in : Guard → Machine
machine_in guard = guard.machine

-- a sink that tells nothing and counts no fault
abbrev pub unseen : SinkView
unseen = record { sent = None; faults = 0 }

-- a load, which is done on each copy in place of being copied with its values
abbrev pub is_load : Instruction → Bool
is_load (Load name values) = true
is_load (Init name count n) = false
is_load (Bbop op dst srcs count n) = false
is_load (Fill name value) = false
is_load (Print name) = false
is_load (Free name) = false
is_load (Order order) = false

-- the reply of a guard to an instruction
abbrev pub reply_by : Machine → Instruction → Reply
reply_by m instr = guarded_reply (geometry_of m) (operations_by m) (table_in m) instr

-- the table of a guard after an instruction
abbrev pub table_by : Machine → Instruction → List Named
table_by m instr = guarded_table (geometry_of m) (operations_by m) (table_in m) instr

-- the order in force after a guarded instruction
abbrev pub turn_by : Machine → Instruction → Turn
turn_by m instr =
    guarded_turn (geometry_of m) (operations_by m) (turn_in m) (table_in m) instr

-- the events of a guarded instruction on the chip
abbrev pub events_by : Machine → Instruction → List Event
events_by m instr =
    guarded_events (geometry_of m) (operations_by m) (turn_in m) (table_in m) instr

-- how many data rows are read for a guarded instruction
abbrev pub reads_by : Machine → Instruction → ℕ
reads_by m instr = guarded_reads (geometry_of m) (operations_by m) (table_in m) instr

-- and in how many banks: those of a print's x copy
abbrev pub banks_read_by : Machine → Instruction → ℕ
banks_read_by m instr = banks_printed (geometry_of m) (table_in m) (on_copy x_letter instr)

-- the line of a guarded instruction in the report
abbrev pub line_by : Machine → ℕ → Banks → Instruction → List ℕ
line_by m number banks instr =
    line number (guarded_said_by (geometry_of m) (operations_by m) (table_in m) banks instr)

-- the plain script that a guarded instruction comes to
abbrev pub script_by : Machine → Instruction → List Instruction
script_by m instr = plain_script (geometry_of m) (operations_by m) (table_in m) instr

-- these plain instructions of a program were done one after another, a bbop as a wave of one
pub record Ran (g : Geometry) (p : Program) (turn turn' : Turn) (table table' : List Named)
    (script : List Instruction) (chip chip' : ChipView) : Type 0 where
  pub tables : table' ≡ table_at_end g (routines_in p) table script
  pub turns : turn' ≡ turn_at_end g (routines_in p) turn table (map piece_of script)
  pub did : DidAndRead (events_of_pieces g (routines_in p) turn table (map piece_of script))
      (sum_done rows_printed g (routines_in p) table script) chip chip'

-- these plain instructions were done on a machine, one after another
abbrev pub RanBy : Machine → Machine → List Instruction → ChipView → ChipView → Type 0
RanBy old new script chip chip' = Ran (geometry_of old) (program_of old) (turn_in old)
    (turn_in new) (table_in old) (table_in new) script chip chip'

-- a plain instruction of a program was done, and this is its reply
pub record One (g : Geometry) (p : Program) (turn turn' : Turn) (table table' : List Named)
    (instr : Instruction) (reply : Reply) (chip chip' : ChipView) : Type 0 where
  pub ran : Ran g p turn turn' table table' (instr ∷ []) chip chip'
  pub answer : reply ≡ reply_to g (routines_in p) table instr

-- a plain instruction was done on this machine, and this is its reply
abbrev pub DidOne : Machine → Machine → Instruction → Reply → ChipView → ChipView → Type 0
DidOne old new instr reply chip chip' = One (geometry_of old) (program_of old) (turn_in old)
    (turn_in new) (table_in old) (table_in new) instr reply chip chip'

-- a guarded instruction came to this plain script and was done so, and this is its reply
pub record Replied (g : Geometry) (p : Program) (turn turn' : Turn) (table table' : List Named)
    (instr : Instruction) (reply : Reply) (chip chip' : ChipView) : Type 0 where
  pub ran : Ran g p turn turn' table table' (plain_script g (routines_in p) table instr) chip chip'
  pub answer : reply ≡ guarded_reply g (routines_in p) table instr

-- a guarded instruction was done on this machine, and this is its reply
abbrev pub RepliedBy : Machine → Machine → Instruction → Reply → ChipView → ChipView → Type 0
RepliedBy old new instr reply chip chip' = Replied (geometry_of old) (program_of old) (turn_in old)
    (turn_in new) (table_in old) (table_in new) instr reply chip chip'

-- each counter is below 2^62
pub record HasMoreRoom (counters : Counters) : Type 0 where
  pub aap : counters.aap < 2 ^ 62
  pub ap : counters.ap < 2 ^ 62
  pub writes : counters.writes < 2 ^ 62
  pub reads : counters.reads < 2 ^ 62

-- a guarded instruction was done, and its line was put
pub record Guarded (old new : Machine) (number : ℕ) (instr : Instruction) (chip chip' : ChipView)
    (sink sink' : SinkView) (reply : Reply) : Type 0 where
  pub answer : reply ≡ reply_by old instr
  pub ran : RanBy old new (script_by old instr) chip chip'
  pub rises : RisesAtMost (80 * WALK_MAX) chip.counters chip'.counters
  pub sent : Known (λ before after. after ≡ before ++ line_by old number chip.banks instr)
      sink.sent sink'.sent
  pub unfailed : sink'.faults ≡ sink.faults

-- A count of faults rose. Where that is the chip's, every bank but the failed call's stands where
-- the events before it leave it, and of no line but a print's a part was put. Where it is the
-- sink's, all was done, but of a print perhaps not each row was read.
pub record Broke (old : Machine) (number : ℕ) (instr : Instruction) (chip chip' : ChipView)
    (sink sink' : SinkView) (fault : StepFault) : Type 0 where
  pub chip_rose : fault ≡ ChipFault → Rose chip.faults chip'.faults
  pub left : fault ≡ ChipFault
      → StoppedWithin (banks_read_by old instr) (events_by old instr) chip.banks chip'.banks
  pub sink_rose : fault ≡ WriteFault → Rose sink.faults sink'.faults
  pub unsent : fault ≡ ChipFault → is_print instr ≡ false → sink' ≡ sink
  pub done : fault ≡ WriteFault → is_print instr ≡ false
      → DidAndRead (events_by old instr) (reads_by old instr) chip chip'
  pub read : fault ≡ WriteFault → is_print instr ≡ true
      → DidReadAtMost (reads_by old instr) chip chip'
  pub part : Known (AppendsPart (line_by old number chip.banks instr)) sink.sent sink'.sent

-- How a guarded instruction went: it was done and told, or the chip or the sink failed.
abbrev pub Came : Machine → Machine → ℕ → Instruction → ChipView → ChipView → SinkView → SinkView
    → Result Reply StepFault → Type 0
Came old new number instr chip chip' sink sink' (Ok reply) =
    Guarded old new number instr chip chip' sink sink' reply
Came old new number instr chip chip' sink sink' (Err fault) =
    Broke old number instr chip chip' sink sink' fault
