-- What stands when a chip was opened on an image, when a piece of a script was done, and when the
-- whole of it was.
use Rattle.std.specs.Prelude.{◌≡◌, ℕ, ◌*◌, List, [], ◌∷◌, ◌++◌, take, count_by}
use Rattle.std.specs.Prelude.{if◌then◌else◌}
use Rattle.dram_model.specs.Chip.{LogIs}
use Rattle.dram_model.specs.View.{ChipView, HasBegun}
use Rattle.uprog_code.specs.declared.TheConstants.{WALK_MAX}
use Rattle.bbop_isa.specs.Forms.{Instruction}
use Rattle.machine_model.specs.Routines.{Program, routines_in}
use Rattle.machine_model.specs.Opened.{Image, row_writes, opened}
use Rattle.machine_model.specs.Pieces.{Piece, Wave, Alone, instrs_in, wave_size, script_events}
use Rattle.machine_model.specs.Script.{banks_at_end, is_bbop, is_refused, replies, rows_printed}
use Rattle.machine_model.specs.Script.{sum_done, table_at_end}
use Rattle.sim_machine.specs.declared.machine.Machine.{Machine}
use Rattle.sim_machine.specs.Machine.{IsLaidOut, events_by, geometry_of, operations_by, table_in}
use Rattle.sim_machine.specs.Machine.{turn_by_piece, turn_in}
use Rattle.object_steps.specs.Objects.{RisesAtMost}
use Rattle.sim_machine.specs.Steps.{DidAndRead}
use Rattle.simdram_cli.specs.Job.{opened_counters, tally_by, refused_by}

-- the chip has begun and taken the rows of the image
pub record OpenedOn (i : Image) (chip : ChipView) : Type 0 where
  pub begun : HasBegun chip
  pub geometry : chip.geometry ≡ i.geometry
  pub banks : chip.banks ≡ opened i
  pub counters : chip.counters ≡ opened_counters i.geometry
  pub log : LogIs (row_writes i) chip.log

-- The script was done on the image, row by row, with so many instructions refused: the chip has
-- begun with the image's geometry; the banks are what the program's commands leave, the counters
-- count them, and a log that is known has the image's writes and then the script's events
pub record WorkDone (program : Program) (script : List Instruction) (i : Image) (chip : ChipView)
    (refused : ℕ) : Type 0 where
  pub begun : HasBegun chip
  pub geometry : chip.geometry ≡ i.geometry
  pub banks : chip.banks ≡ banks_at_end i.geometry (routines_in program) i.table (opened i) script
  pub counters : chip.counters ≡ tally_by program script i
  pub log : LogIs (row_writes i
      ++ script_events i.geometry (routines_in program) i.table script) chip.log
  pub refused_is : refused ≡ refused_by program script i

-- what the parts of a script come to, for its proof

-- the first piece of a script: its first instruction alone, or a wave of the bbops at its front
abbrev pub next_piece : List Instruction → Piece
next_piece [] = Wave []
next_piece (instr ∷ script) = if is_bbop instr
    then Wave (take (wave_size (instr ∷ script)) (instr ∷ script)) else Alone instr

-- A piece was done by a machine, with so many instructions refused
pub record PieceDone (piece : Piece) (m n : Machine) (a b : ChipView) (refused : ℕ) : Type 0 where
  pub turn : turn_in n ≡ turn_by_piece m piece
  pub table : table_in n
      ≡ table_at_end (geometry_of m) (operations_by m) (table_in m) (instrs_in piece)
  pub laid : IsLaidOut m
  pub did : DidAndRead (events_by m piece)
      (sum_done rows_printed (geometry_of m) (operations_by m) (table_in m) (instrs_in piece)) a b
  pub rises : RisesAtMost (256 * WALK_MAX) a.counters b.counters
  pub refused_is : refused
      ≡ count_by is_refused (replies (geometry_of m) (operations_by m) (table_in m)
      (instrs_in piece))
