-- What a run promises when it ends with status 0 or 8.
use Rattle.std.specs.Prelude.{map, ◌≡◌, ◌≢◌, ℕ, ◌+◌, ◌*◌, ◌<◌, false, List, ◌++◌, Option, Some}
use Rattle.std.specs.Prelude.{None, Result, count_by}
use Rattle.std.specs.List.{AllByRecursion}
use Rattle.std.specs.Result.{result_ok}
use Rattle.host_edge.specs.Views.{Files, Known}
use Rattle.dram_model.specs.Chip.{LogIs, row_in}
use Rattle.dram_model.specs.View.{ChipView, HasBegun}
use Rattle.object_alloc.specs.Spelling.{image_bytes}
use Rattle.uprog_bin.specs.Spelling.{program_bytes}
use Rattle.uprog_gen.specs.Totals.{AreExact}
use Rattle.bbop_isa.specs.Forms.{Instruction}
use Rattle.machine_model.specs.declared.Reply.{Reply}
use Rattle.machine_model.specs.declared.Reply.TheVariants.{Refused}
use Rattle.machine_model.specs.declared.Why.TheVariants as why
use Rattle.machine_model.specs.Routines.{Program, Routines, routines_of, routines_in}
use Rattle.machine_model.specs.Routines.{meaning_in}
use Rattle.op_text.specs.Language.{Operation}
use Rattle.op_text.specs.OpsOf.{IsOpsOf}
use Rattle.uprog_code.specs.Programs.{IsProgram}
use Rattle.uprog_code.specs.Texts.{TextOp, ImplementsAll, text_op}
use Rattle.machine_model.specs.Steps.{Held, table_of}
use Rattle.machine_model.specs.Agrees.{HoldsNumbers}
use Rattle.machine_model.specs.Script.{replies, words_at_end, banks_at_end, is_touched_by}
use Rattle.machine_model.specs.Pieces.{script_events}
use Rattle.machine_model.specs.Script.{sum_of, sum_done, rows_loaded, rows_printed}
use Rattle.machine_model.specs.Script.{is_refused}
use Rattle.machine_model.specs.Report.{report, said_in_words}
use Rattle.machine_model.specs.Opened.{Image, row_writes, opened, rows_in_banks, objects_held}
use Rattle.cli_model.specs.World.{World}
use Rattle.cli_model.specs.Steps.{Refusal}
use Rattle.simdram_cli.specs.Accepted.{IsTaken}
use Rattle.simdram_cli.specs.Inputs.{script_in, image_of}
use Rattle.simdram_cli.specs.declared.words.RunNames.{RunNames}
use Rattle.simdram_cli.specs.Job.{done_status}

-- a script on an image, by the ops of a text, as far as a machine knows them, and with a program
pub record RunJob : Type 0 where
  pub text : List TextOp
  pub script : List Instruction
  pub image : Image
  pub program : Program

-- what the file of this name says, where it is there and accepted
abbrev pub read_as : {A : Type 0} → (List ℕ → Result A Refusal) → Option (List ℕ) → Option A
read_as read None = None
read_as read (Some bytes) = result_ok (read bytes)

-- the file is there, and its text is one of these ops
abbrev pub Spells : Option (List ℕ) → List Operation → Type 0
Spells None ops = ⊥
Spells (Some bytes) ops = IsOpsOf bytes ops

-- the job is that of the files at entry: the ops of OPS, the instructions of SCRIPT and the image
-- of IMAGE
pub record IsRunJob (names : RunNames) (before : Files) (job : RunJob) : Type 0 where
  pub ops : List Operation
  pub are : Spells (before names.ops.now) ops
  pub text : job.text ≡ map text_op ops
  pub script : read_as script_in (before names.script.now) ≡ Some job.script
  pub image : read_as image_of (before names.image.now) ≡ Some job.image

-- the operations that a bbop of the job can name: those of OPS, done by the program
abbrev pub operations : RunJob → Routines
operations job = routines_of job.text job.program

-- the replies to the job's script, in order
abbrev pub replies_of : RunJob → List Reply
replies_of job = replies job.image.geometry (operations job) job.image.table job.script

-- the word machine's state after the script: the objects with their numbers
abbrev pub state_after : RunJob → List Held
state_after job = words_at_end job.image.geometry (operations job) (meaning_in job.text)
    (objects_held job.image) job.script

-- PROG is the spelling of a program, which implements the operations; and each command that loads
-- a program file takes it
pub record ProgramWritten (names : RunNames) (job : RunJob) (after : Files) : Type 0 where
  pub file : after names.prog.now ≡ Some (program_bytes 2 job.program)
  pub legal : IsProgram job.program
  pub implements : ImplementsAll job.program job.text
  pub taken : IsTaken (program_bytes 2 job.program) job.program

-- OUT is the spelling of the word machine's table with the chip's rows, in which each object has
-- exactly its numbers
pub record ObjectsRight (out : List ℕ) (job : RunJob) (after : Files) (chip : ChipView) : Type 0
  where
    pub file : after out ≡ Some (image_bytes job.image.geometry (table_of (state_after job))
        (rows_in_banks chip.banks))
    pub numbers : HoldsNumbers job.image.geometry chip.banks (state_after job)

-- A row that no done instruction touches is as it was in the image read
abbrev pub RowsUntouched : RunJob → ChipView → Type 0
RowsUntouched job chip =
    (bank row : ℕ) → bank < job.image.geometry.banks → row < job.image.geometry.rows
    → is_touched_by job.image.geometry (operations job) job.image.table job.script bank row ≡ false
    → row_in row (chip.banks bank) ≡ job.image.rows bank row

-- The chip has begun with the image's geometry. It received what the replies count, and nothing
-- else; its banks are what the commands of the program written leave
pub record CommandsCounted (job : RunJob) (chip : ChipView) : Type 0 where
  pub begun : HasBegun chip
  pub geometry : chip.geometry ≡ job.image.geometry
  pub aap : chip.counters.aap ≡ (sum_of (replies_of job)).aap
  pub ap : chip.counters.ap ≡ (sum_of (replies_of job)).ap
  pub writes : chip.counters.writes ≡ job.image.geometry.banks * job.image.geometry.rows
      + sum_done rows_loaded job.image.geometry (operations job) job.image.table job.script
  pub reads : chip.counters.reads ≡ job.image.geometry.banks * job.image.geometry.rows
      + sum_done rows_printed job.image.geometry (operations job) job.image.table job.script
  pub banks : chip.banks ≡ banks_at_end job.image.geometry (routines_in job.program)
      job.image.table (opened job.image) job.script
  pub log : LogIs (row_writes job.image
      ++ script_events job.image.geometry (routines_in job.program) job.image.table job.script)
      chip.log

-- what the word machine says of the script, and the line of the totals
abbrev pub report_of : RunJob → ChipView → List ℕ
report_of job chip =
    report (said_in_words job.image.geometry (operations job) (meaning_in job.text)
    (objects_held job.image) job.script) chip.counters (replies_of job)

-- The report was sent, after what was sent before
abbrev pub ReportSent : RunJob → ChipView → Option (List ℕ) → Option (List ℕ) → Type 0
ReportSent job chip old new = Known (λ before after. after ≡ before ++ report_of job chip) old new

-- the reply is no refusal for a walk that is stuck
abbrev pub IsNoBadWalk : Reply → Type 0
IsNoBadWalk reply = (walk : _) → reply ≢ Refused (why.BadWalk walk)

-- The status tells whether a reply is a refusal, and no walk was stuck
pub record RepliesExact (job : RunJob) (status : ℕ) : Type 0 where
  pub answers : status ≡ done_status (count_by is_refused (replies_of job))
  pub walks : AllByRecursion IsNoBadWalk (replies_of job)

-- The headline: one job, that of the files at entry, and the six promises on it. Each entry of PROG
-- takes exactly the row commands of its op's statements at each width. All files but PROG and OUT
-- are as at entry
pub record Headline (names : RunNames) (before after : Files) (old new : World) (status : ℕ)
    : Type 0 where
  pub job : RunJob
  pub of_files : IsRunJob names before job
  pub program_written : ProgramWritten names job after
  pub exact : AreExact job.program of_files.ops
  pub objects_right : ObjectsRight names.out.now job after new.chip
  pub rows_untouched : RowsUntouched job new.chip
  pub commands_counted : CommandsCounted job new.chip
  pub report_sent : ReportSent job new.chip old.sink.sent new.sink.sent
  pub replies_exact : RepliesExact job status
  pub others : (other : List ℕ) → other ≢ names.prog.now → other ≢ names.out.now
      → after other ≡ before other

-- there is one such job: the files determine it
abbrev pub OneJob : Type 0
OneJob = (names : RunNames) (before after : Files) (a b : RunJob) → IsRunJob names before a
    → IsRunJob names before b → ProgramWritten names a after → ProgramWritten names b after → a ≡ b
