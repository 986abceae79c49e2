-- The command `exec`.
use Rattle.std.specs.Prelude.{◌≡◌, ◌≢◌, ℕ, ◌<◌, false, List, [], ◌∷◌, ◌++◌, Some}
use Rattle.host_edge.specs.Views.{Files, Known}
use Rattle.dram_model.specs.Chip.{row_in}
use Rattle.dram_model.specs.View.{ChipView}
use Rattle.std.specs.List.{AllByRecursion}
use Rattle.object_alloc.specs.Spelling.{IsImage}
use Rattle.uprog_code.specs.Programs.{IsProgram}
use Rattle.uprog_code.specs.Texts.{TextOp, ImplementsAll}
use Rattle.uprog_bin.specs.Opened.{IsProgramFile}
use Rattle.bbop_isa.specs.Forms.{Instruction}
use Rattle.machine_model.specs.Agrees.{IsPlain}
use Rattle.machine_model.specs.Routines.{Program, routines_in}
use Rattle.machine_model.specs.Opened.{Image, opened}
use Rattle.machine_model.specs.Script.{banks_at_end, is_touched_by, table_at_end}
use Rattle.machine_model.specs.Steps.{is_touched}
use Rattle.machine_model.specs.Report.{report}
use Rattle.cli_model.specs.World.{World}
use Rattle.simdram_cli.specs.declared.words.ExecNames.{ExecNames}
use Rattle.simdram_cli.specs.declared.words.TheConstants.{PROG_MAX}
use Rattle.simdram_cli.specs.declared.job.JobNames.{JobNames}
use Rattle.simdram_cli.specs.Inputs.{script_in, image_of}
use Rattle.simdram_cli.specs.Programs.{prog_in}
use Rattle.simdram_cli.specs.Job.{said_in, replies_by, refused_by, done_status, image_by}
use Rattle.simdram_cli.specs.Works.{WorkDone}
use Rattle.cli_model.specs.Plan.{Plan, Loads, Makes}
use Rattle.simdram_cli.specs.Plans.{job_plan}
use Rattle.simdram_cli.specs.Headline.{RunJob, read_as, ObjectsRight, RowsUntouched}
use Rattle.simdram_cli.specs.Headline.{CommandsCounted}
use Rattle.simdram_cli.specs.Headline.{ReportSent, RepliesExact}

-- the files of its job
abbrev pub exec_names : ExecNames → JobNames
exec_names names = record { script = names.script; image = names.image; out = names.out }

-- PROG is loaded, and SCRIPT is done on IMAGE with its program
abbrev pub exec_plan : ExecNames → Plan
exec_plan names = Loads names.prog.now PROG_MAX prog_in (λ text program.
    Makes {A = Unit {0}} (λ u. IsProgramFile text) (λ u. job_plan (exec_names names) program))

-- A row that no instruction touches that is done by a program is as it was in the image read
abbrev pub RowsStay : Program → List Instruction → Image → ChipView → Type 0
RowsStay program script i chip =
    (bank row : ℕ) → bank < i.geometry.banks → row < i.geometry.rows
    → is_touched_by i.geometry (routines_in program) i.table script bank row ≡ false
    → row_in row (chip.banks bank) ≡ i.rows bank row

-- Row by row, with the heads and the traces of the program's own entries: the chip's banks, its
-- counters and its log; OUT, which has the table and these rows; the report; and the status
pub record RowByRow (out : List ℕ) (program : Program) (script : List Instruction) (i : Image)
    (after : Files) (old new : World) (status : ℕ) : Type 0 where
  pub work : WorkDone program script i new.chip (refused_by program script i)
  pub file : after out ≡ Some (image_by program script i)
  pub stay : RowsStay program script i new.chip
  pub sent : Known (λ x y. y ≡ x ++ report (said_in program script i) new.chip.counters
      (replies_by program script i)) old.sink.sent new.sink.sent
  pub answers : status ≡ done_status (refused_by program script i)

-- Whatever the program does, no instruction of the script changes a row that it may not touch: each
-- but those of its one or two destinations, its granted scratch and the spill group, in the banks
-- of the destinations' segments. So its sources and all other objects stay
abbrev pub StaysInside : Program → List Instruction → Image → Type 0
StaysInside program script i =
    (before : List Instruction) (instr : Instruction) (following : List Instruction) (bank row : ℕ)
    → before ++ instr ∷ following ≡ script
    → (let o = routines_in program in
    is_touched i.geometry o (table_at_end i.geometry o i.table before) instr bank row ≡ false
    → row_in row (banks_at_end i.geometry o i.table (opened i) (before ++ instr ∷ []) bank)
    ≡ row_in row (banks_at_end i.geometry o i.table (opened i) before bank))

-- By the ops of a text that the program does: the headline's promises
pub record ByText (out : List ℕ) (job : RunJob) (after : Files) (old new : World) (status : ℕ)
    : Type 0 where
  pub objects_right : ObjectsRight out job after new.chip
  pub rows_untouched : RowsUntouched job new.chip
  pub commands_counted : CommandsCounted job new.chip
  pub report_sent : ReportSent job new.chip old.sink.sent new.sink.sent
  pub replies_exact : RepliesExact job status

-- What it promises of every program file that is accepted, however it was made; and of each text
-- that its program does. The image and the script are such as every accepted one is. All files but
-- OUT are as at entry
pub record Executed (names : ExecNames) (before after : Files) (old new : World) (status : ℕ)
    : Type 0 where
  pub program : Program
  pub script : List Instruction
  pub image : Image
  pub prog_is : read_as prog_in (before names.prog.now) ≡ Some program
  pub script_is : read_as script_in (before names.script.now) ≡ Some script
  pub image_is : read_as image_of (before names.image.now) ≡ Some image
  pub legal : IsProgram program
  pub plain : AllByRecursion IsPlain script
  pub accepted : IsImage image.geometry image.table image.rows
  pub row_by_row : RowByRow names.out.now program script image after old new status
  pub stays_inside : StaysInside program script image
  pub by_text : (t : List TextOp) → ImplementsAll program t
      → ByText names.out.now (record {
        text = t;
        script = script;
        image = image;
        program = program;
      }) after old new status
  pub others : (other : List ℕ) → other ≢ names.out.now → after other ≡ before other
