-- What is done on a machine and its chip.
use Rattle.std.specs.Prelude.{◌≡◌, ℕ, ◌*◌, ◌<◌, List, [], ◌∷◌, ◌++◌, map, length, Option, Some}
use Rattle.std.specs.Prelude.{None, Result, Ok, Err}
use Rattle.dram_model.specs.View.{ChipView, Kept, Did}
use Rattle.dram_model.specs.declared.dram.Counters.{Counters}
use Rattle.dram_model.specs.declared.dram.ChipFault.{ChipFault}
use Rattle.transpose_unit.specs.Stopped.{StoppedWithin}
use Rattle.faults.specs.Counts.{Rose}
use Rattle.uprog_code.specs.declared.TheConstants.{WALK_MAX}
use Rattle.bbop_isa.specs.Forms.{Instruction}
use Rattle.machine_model.specs.declared.Why.{Why}
use Rattle.machine_model.specs.Pieces.{events_of_pieces, piece_of, turn_at_end}
use Rattle.machine_model.specs.Refusals.{refusal}
use Rattle.machine_model.specs.Routines.{Routines}
use Rattle.machine_model.specs.Steps.{if_done, table_after}
use Rattle.object_alloc.specs.Listed.{Named}
use Rattle.dram_model.specs.declared.geometry.Geometry.{Geometry}
use Rattle.dram_model.specs.Chip.{Event}
use Rattle.machine_model.specs.Script.{table_at_end}
use Rattle.object_steps.specs.Objects.{RisesAtMost}
use Rattle.sim_machine.specs.declared.machine.Machine.{Machine}
use Rattle.sim_machine.specs.Machine.{geometry_of, operations_by, table_in, turn_in}
use Rattle.scan_model.specs.Checks.{refused_in, refused_from}
use Rattle.scan_model.specs.Instructions.{count_of, scan_script}
use Rattle.scan_model.specs.Names.{free_name}
use Rattle.scan_model.specs.Queries.{Node}

-- each counter is below the limit
pub record AreBelow (limit : ℕ) (counters : Counters) : Type 0 where
  pub aap : counters.aap < limit
  pub ap : counters.ap < limit
  pub writes : counters.writes < limit
  pub reads : counters.reads < limit

-- the instructions were done one after another, and none was refused
pub record Ran (script : List Instruction) (old new : Machine) (chip chip' : ChipView) : Type 0
  where
    pub kept : Kept chip chip'
    pub allowed : refused_in (geometry_of old) (operations_by old) (table_in old) script ≡ None
    pub machine : new ≡ record old {
      table = table_at_end (geometry_of old) (operations_by old) (table_in old) script;
      turn = turn_at_end (geometry_of old) (operations_by old) (turn_in old) (table_in old)
          (map piece_of script);
    }
    pub did : Did (events_of_pieces (geometry_of old) (operations_by old) (turn_in old)
        (table_in old) (map piece_of script)) chip chip'
    pub rises : RisesAtMost (length script * (16 * WALK_MAX)) chip.counters chip'.counters

-- one was refused for this reason: those before it were done, of which none was refused, and
-- nothing else happened on the chip
pub record StoppedAt (why : Why) (script : List Instruction) (m : Machine) (chip chip' : ChipView)
    : Type 0 where
  pub before : List Instruction
  pub refused : Instruction
  pub following : List Instruction
  pub parts : before ++ refused ∷ following ≡ script
  pub allowed : refused_in (geometry_of m) (operations_by m) (table_in m) before ≡ None
  pub why_is : refusal (geometry_of m) (operations_by m)
      (table_at_end (geometry_of m) (operations_by m) (table_in m) before) refused ≡ Some why
  pub did : Did (events_of_pieces (geometry_of m) (operations_by m) (turn_in m) (table_in m)
      (map piece_of before)) chip chip'

-- the instructions before the first that is refused
abbrev pub until_refused : Geometry → Routines → List Named → List Instruction → List Instruction
until_refused g operations table [] = []
until_refused g operations table (instr ∷ rest) = if_done (refusal g operations table instr)
    (instr ∷ until_refused g operations (table_after g operations table instr) rest) []

-- the events of these on a machine
abbrev pub events_until : Machine → List Instruction → List Event
events_until m script = events_of_pieces (geometry_of m) (operations_by m) (turn_in m) (table_in m)
    (map piece_of (until_refused (geometry_of m) (operations_by m) (table_in m) script))

-- the chip failed at one of them, before any was refused: every bank but the failed call's stands
-- where the events before it leave it
pub record FailedAmong (script : List Instruction) (m : Machine) (chip chip' : ChipView) : Type 0
  where
    pub rose : Rose chip.faults chip'.faults
    pub left : StoppedWithin 0 (events_until m script) chip.banks chip'.banks

-- the instructions were done, or one was refused, or the chip failed
abbrev pub Runs : List Instruction → Machine → Machine → ChipView → ChipView
    → Result (Option Why) ChipFault → Type 0
Runs script old new chip chip' (Ok None) = Ran script old new chip chip'
Runs script old new chip chip' (Ok (Some why)) =
    (refused_in (geometry_of old) (operations_by old) (table_in old) script ≡ Some why)
    × StoppedAt why script old chip chip'
Runs script old new chip chip' (Err fault) = FailedAmong script old chip chip'

-- the first refused node of a query on a machine
abbrev pub refused_node : Machine → List Node → Option (Why × ℕ)
refused_node m nodes = refused_from (geometry_of m) (operations_by m) (table_in m) (table_in m)
    (free_name (table_in m)) (count_of (table_in m) nodes) 0 nodes

-- a query's nodes were done, or one was refused, or the chip failed
pub record NodesRan (nodes : List Node) (old new : Machine) (chip chip' : ChipView) : Type 0 where
  pub allowed : refused_node old nodes ≡ None
  pub ran : Ran (scan_script (table_in old) nodes) old new chip chip'

-- How the instructions of a query's nodes went: all done, or one refused at its node, or the chip
-- failed.
abbrev pub NodesRun : List Node → Machine → Machine → ChipView → ChipView
    → Result (Option (Why × ℕ)) ChipFault → Type 0
NodesRun nodes old new chip chip' (Ok None) = NodesRan nodes old new chip chip'
NodesRun nodes old new chip chip' (Ok (Some refused)) = (refused_node old nodes ≡ Some refused)
    × StoppedAt refused.0 (scan_script (table_in old) nodes) old chip chip'
NodesRun nodes old new chip chip' (Err fault) =
    FailedAmong (scan_script (table_in old) nodes) old chip chip'
