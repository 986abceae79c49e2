-- Rows that stay as they were where the chip fails in a wave or in another instruction.
use Rattle.std.specs.Prelude.{◌≡◌, ◌≢◌, ℕ, ◌<◌, false, List, take}
use Rattle.std.specs.List.{AllByRecursion}
use Rattle.dram_model.specs.declared.geometry.Geometry.{Geometry}
use Rattle.dram_model.specs.Chip.{Banks, row_in}
use Rattle.uprog_code.specs.declared.code.Uop.{Uop}
use Rattle.uprog_code.specs.Implements.{Keeps}
use Rattle.uprog_code.specs.Legal.{IsLegalCode}
use Rattle.uprog_code.specs.Machine.{issues_of, trace}
use Rattle.uprog_code.specs.Programs.{IsProgram}
use Rattle.uprog_code.specs.Shape.{Shape}
use Rattle.wave_model.specs.Schedule.{Turn}
use Rattle.object_alloc.specs.Listed.{Named}
use Rattle.bbop_isa.specs.Forms.{Instruction}
use Rattle.machine_model.specs.Agrees.{IsPlain}
use Rattle.machine_model.specs.Laws.{TableFits}
use Rattle.machine_model.specs.Pieces.{AreBbops}
use Rattle.machine_model.specs.Routines.{Program, Routines, routines_in}
use Rattle.machine_model.specs.Script.{banks_at_end, is_touched_by, table_at_end}
use Rattle.machine_model.specs.Steps.{is_touched}
use Rattle.cli_model.specs.Waves.{ChipUse, ChipWave, IsLeftBy, StoppedIn}
use Rattle.simdram_cli.specs.Job.{use_on, wave_on}

-- The first k commands of legal code keep each data row outside results, scratch and spill group,
-- as all of them do
abbrev pub FirstPartsKeep : Type 0
FirstPartsKeep = (shape : Shape) (code : List Uop) → IsLegalCode shape code → (n k : ℕ)
    → Keeps shape n (take k (issues_of (trace shape code n)))

-- the wave after a script
abbrev pub wave_after : Geometry → Routines → Turn → List Named → Banks → List Instruction
    → List Instruction → ChipWave
wave_after g operations turn table banks script wave =
    wave_on g operations turn (table_at_end g operations table script)
    (banks_at_end g operations table banks script) wave

-- Whatever an accepted program does and whichever order is in force: where the chip failed in a
-- wave after a script, a data row that no done instruction of the script and no bbop of the wave
-- may touch is as it was before the script, in every bank but that of the failed command
abbrev pub StoppedWavesAreSafe : Type 0
StoppedWavesAreSafe =
    (g : Geometry) (p : Program) (turn : Turn) (table : List Named)
    (script wave : List Instruction) (banks left : Banks) (bank row : ℕ)
    → IsProgram p → TableFits g table → AllByRecursion IsPlain script → AreBbops wave
    → (stop : StoppedIn (wave_after g (routines_in p) turn table banks script wave) left)
    → bank < g.banks → bank ≢ stop.bank
    → is_touched_by g (routines_in p) table script bank row ≡ false
    → is_touched_by g (routines_in p) (table_at_end g (routines_in p) table script) wave bank row
    ≡ false
    → row_in row (left bank) ≡ row_in row (banks bank)

-- the instruction after a script
abbrev pub use_after : Geometry → Routines → Turn → List Named → Banks → List Instruction
    → Instruction → ChipUse
use_after g operations turn table banks script instr =
    use_on g operations turn (table_at_end g operations table script)
    (banks_at_end g operations table banks script) instr

-- The same where it failed in an instruction by itself: a data row that the script's done
-- instructions and this one may not touch is as it was, in every bank but that of the failed call
abbrev pub StoppedUsesAreSafe : Type 0
StoppedUsesAreSafe =
    (g : Geometry) (p : Program) (turn : Turn) (table : List Named) (script : List Instruction)
    (instr : Instruction) (banks left : Banks) (bank row : ℕ)
    → IsProgram p → TableFits g table → AllByRecursion IsPlain script
    → (stop : IsLeftBy (use_after g (routines_in p) turn table banks script instr) left)
    → bank ≢ stop.bank → is_touched_by g (routines_in p) table script bank row ≡ false
    → is_touched g (routines_in p) (table_at_end g (routines_in p) table script) instr bank row
    ≡ false
    → row_in row (left bank) ≡ row_in row (banks bank)
