-- The command `guard`.
use Rattle.std.specs.Prelude.{◌≡◌, ◌≢◌, ℕ, ◌*◌, ◌<◌, List, [], ◌∷◌, ◌++◌, length, count_by}
use Rattle.std.specs.Prelude.{Some, None}
use Rattle.std.specs.List.{AllByRecursion}
use Rattle.host_edge.specs.Views.{Files, Known}
use Rattle.dram_model.specs.declared.dram.Counters.{Counters}
use Rattle.dram_model.specs.Chip.{Banks, Event, LogIs}
use Rattle.dram_model.specs.Elements.{column_count}
use Rattle.dram_model.specs.View.{ChipView, HasBegun, with_reads}
use Rattle.object_alloc.specs.Listed.{Named}
use Rattle.object_alloc.specs.Spelling.{IsImage, image_bytes}
use Rattle.uprog_gen.specs.Totals.{AreExact}
use Rattle.uprog_code.specs.Texts.{TextOp, ImplementsAll}
use Rattle.bbop_isa.specs.Forms.{Instruction}
use Rattle.wave_model.specs.Schedule.{Ahead}
use Rattle.machine_model.specs.declared.Reply.{Reply}
use Rattle.machine_model.specs.Agrees.{IsPlain}
use Rattle.machine_model.specs.Opened.{Image, opened, row_writes, rows_in_banks, objects_held}
use Rattle.machine_model.specs.Routines.{Program, Routines, meaning_in, routines_in}
use Rattle.machine_model.specs.Routines.{routines_of}
use Rattle.machine_model.specs.Report.{Said, total_line}
use Rattle.machine_model.specs.Script.{is_refused}
use Rattle.machine_model.specs.Steps.{Held}
use Rattle.guard_model.specs.declared.Flip.{Flip}
use Rattle.guard_model.specs.Guarded.{guarded_replies, guarded_rows_at_end}
use Rattle.guard_model.specs.Guarded.{guarded_said_in_rows, guarded_table_at_end, guarded_tally}
use Rattle.guard_model.specs.Guarded.{lone_words_at_end, votes_at_end}
use Rattle.guard_model.specs.Named.{first_long_name}
use Rattle.guard_model.specs.Report.{guarded_report, vote_line}
use Rattle.guard_model.specs.Survival.{AllPrintWhole, HoldsWhole, Spot, Whole, whole_at_end}
use Rattle.guard_model.specs.Survival.{whole_first}
use Rattle.guard_model.specs.Triples.{first_copies, first_stranger}
use Rattle.guard_job.specs.Events.{run_events}
use Rattle.guard_job.specs.Steps.{guarded_steps}
use Rattle.cli_model.specs.World.{World}
use Rattle.cli_model.specs.Plan.{Answers, Loads, Plan, Then}
use Rattle.simdram_cli.specs.Plans.{compiled_plan}
use Rattle.cli_model.specs.Steps.{Step, Take, Store, Put}
use Rattle.simdram_cli.specs.declared.words.GuardNames.{GuardNames}
use Rattle.simdram_cli.specs.declared.words.RunNames.{RunNames}
use Rattle.simdram_cli.specs.declared.words.TheConstants.{FLIPS_MAX, IMAGE_MAX, SCRIPT_MAX}
use Rattle.simdram_cli.specs.Flips.{flips_in, guarded_image_of, guarded_script_in}
use Rattle.simdram_cli.specs.Headline.{IsRunJob, IsNoBadWalk, RunJob, ProgramWritten, read_as}
use Rattle.simdram_cli.specs.Job.{done_status, opened_counters, opening, reading}

-- a guarded script on an image with a program, and the flips among its instructions
pub record GuardJob : Type 0 where
  pub program : Program
  pub script : List Instruction
  pub image : Image
  pub flips : List Flip

-- the job of these files
abbrev pub guard_job : Program → List Instruction → Image → List Flip → GuardJob
guard_job program script i flips =
    record { program = program; script = script; image = i; flips = flips }

-- What the flips do not change: the replies, the table and how many AAP the votes take

-- the replies to the job's script, which the flips do not change
abbrev pub replies_of : GuardJob → List Reply
replies_of job = guarded_replies job.image.geometry (routines_in job.program) job.image.table
    job.script

-- how many instructions are refused
abbrev pub refused_of : GuardJob → ℕ
refused_of job = count_by is_refused (replies_of job)

-- the table of objects at the end
abbrev pub table_at_last : GuardJob → List Named
table_at_last job = guarded_table_at_end job.image.geometry (routines_in job.program)
    job.image.table job.script

-- how many AAP all votes take
abbrev pub votes_of : GuardJob → ℕ
votes_of job = votes_at_end job.image.geometry (routines_in job.program) job.image.table
    job.script

-- The banks after the flips, the votes and the instructions; what is said with the values that the
-- banks hold when they are printed; and the events, after the writes of the image's rows

-- the banks at the end, after the flips, the votes and the instructions
abbrev pub banks_at_last : GuardJob → Banks
banks_at_last job = guarded_rows_at_end job.image.geometry (routines_in job.program) job.flips 1
    job.image.table (opened job.image) job.script

-- what the report says, with the values that the banks hold when they are printed
abbrev pub said_of : GuardJob → List Said
said_of job = guarded_said_in_rows job.image.geometry (routines_in job.program) job.flips 1
    job.image.table (opened job.image) job.script

-- all events on the chip, the writes of the image's rows first
abbrev pub events_of : GuardJob → List Event
events_of job = row_writes job.image
    ++ run_events job.image.geometry (routines_in job.program) job.flips 1 Ahead job.image.table
    (opened job.image) job.script

-- each row of every bank is written at the opening and read for the image
abbrev pub tally_of : GuardJob → Counters
tally_of job = with_reads (job.image.geometry.banks * job.image.geometry.rows)
    (guarded_tally job.image.geometry (routines_in job.program) job.image.table job.script
    job.flips (opened_counters job.image.geometry))

-- the image at the end
abbrev pub image_at_last : GuardJob → List ℕ
image_at_last job =
    image_bytes job.image.geometry (table_at_last job) (rows_in_banks (banks_at_last job))

-- the image is stored, and the lines of the votes and of the totals are sent
abbrev pub last_steps : List ℕ → GuardJob → List Step
last_steps out job = reading job.image.geometry (banks_at_last job) ∷ Store out (image_at_last job)
    ∷ Put (vote_line (votes_of job) (length job.flips))
    ∷ Put (total_line (tally_of job) (refused_of job)) ∷ []

-- the script goes on the image, with its flips and votes
abbrev pub work_steps : List ℕ → GuardJob → List Step
work_steps out job =
    opening job.image ∷ guarded_steps job.image.geometry (routines_in job.program) job.flips 1
    Ahead job.image.table (opened job.image) job.script
    ++ last_steps out job

-- The job was done, row by row, with so many instructions refused: the chip has begun with the
-- image's geometry; the banks are what the flips, the votes and the program's commands leave, the
-- counters count them, and a log that is known has the image's writes and then these events
pub record GuardDone (job : GuardJob) (chip : ChipView) (refused : ℕ) : Type 0 where
  pub begun : HasBegun chip
  pub geometry : chip.geometry ≡ job.image.geometry
  pub banks : chip.banks ≡ banks_at_last job
  pub counters : chip.counters ≡ tally_of job
  pub log : LogIs (events_of job) chip.log
  pub refused_is : refused ≡ refused_of job

-- so it was done on an image that was read
pub record GuardDoneOn (job : GuardJob) (chip : ChipView) (refused : ℕ) : Type 0 where
  pub image : IsImage job.image.geometry job.image.table job.image.rows
  pub plain : AllByRecursion IsPlain job.script
  pub done : GuardDone job chip refused

-- the script is done with its flips on the image
abbrev pub guard_work_plan : List ℕ → GuardJob → Plan
guard_work_plan out job = Then (work_steps out job)
    (Answers (done_status (refused_of job)) (λ chip. GuardDoneOn job chip (refused_of job)))

-- FLIPS is loaded, and the script is done with them
abbrev pub flips_plan : GuardNames → Program → List Instruction → Image → Plan
flips_plan names program script i = Loads names.flips.now FLIPS_MAX
    (flips_in i.geometry (length script)) (λ text flips. Then (Take ∷ [])
    (guard_work_plan names.out.now (guard_job program script i flips)))

-- IMAGE and FLIPS are
abbrev pub guard_image_plan : GuardNames → Program → List Instruction → Plan
guard_image_plan names program script = Loads names.image.now IMAGE_MAX guarded_image_of (λ text i.
    flips_plan names program script i)

-- SCRIPT, IMAGE and FLIPS are
abbrev pub guard_job_plan : GuardNames → Program → Plan
guard_job_plan names program = Loads names.script.now SCRIPT_MAX guarded_script_in (λ text script.
    guard_image_plan names program script)

-- OPS is compiled and PROG stored, and then SCRIPT is done on IMAGE with FLIPS
abbrev pub guard_plan : GuardNames → Plan
guard_plan names =
    compiled_plan names.ops.now names.prog.now (λ program. guard_job_plan names program)

-- the files of a plain run
abbrev pub run_names : GuardNames → RunNames
run_names names = record {
  ops = names.ops;
  prog = names.prog;
  script = names.script;
  image = names.image;
  out = names.out;
}

-- the job of a plain run on the same instructions and image, by a text
abbrev pub job_by : List TextOp → GuardJob → RunJob
job_by t job =
    record { text = t; script = job.script; image = job.image; program = job.program }

-- Row by row, whatever the flips are: the chip, which has begun with the image's geometry, its
-- banks, its counters and its log; OUT, which has the table after the script and these rows;
-- the report; and the status
pub record GuardedRows (out : List ℕ) (job : GuardJob) (after : Files) (old new : World)
    (status : ℕ) : Type 0 where
  pub begun : HasBegun new.chip
  pub geometry : new.chip.geometry ≡ job.image.geometry
  pub banks : new.chip.banks ≡ banks_at_last job
  pub counters : new.chip.counters ≡ tally_of job
  pub log : LogIs (events_of job) new.chip.log
  pub file : after out
      ≡ Some (image_bytes job.image.geometry (table_at_last job) (rows_in_banks new.chip.banks))
  pub sent : Known (λ x y. y ≡ x ++ guarded_report (said_of job) (votes_of job) (length job.flips)
      new.chip.counters (replies_of job)) old.sink.sent new.sink.sent
  pub answers : status ≡ done_status (refused_of job)

-- the operations of a text, done by the job's program
abbrev pub operations_by : List TextOp → GuardJob → Routines
operations_by t job = routines_of t job.program

-- the replies to the script, by the text's operations
abbrev pub replies_by : List TextOp → GuardJob → List Reply
replies_by t job = guarded_replies job.image.geometry (operations_by t job) job.image.table
    job.script

-- the objects of IMAGE, one copy of each
abbrev pub lone_first : GuardJob → List Held
lone_first job = first_copies (objects_held job.image)

-- what the word machine makes of these by the script, as the text's ops mean it
abbrev pub lone_by : List TextOp → GuardJob → List Held
lone_by t job = lone_words_at_end job.image.geometry (routines_in job.program) (meaning_in t)
    job.image.table (lone_first job) job.script

-- which elements at one spot are sure to be right in IMAGE: those whose copies are equal
abbrev pub whole_in : GuardJob → Spot → Whole
whole_in job spot = whole_first job.image.geometry spot (objects_held job.image)

-- which are sure to be right at the end, by the hits alone
abbrev pub whole_at_last : GuardJob → Spot → Whole
whole_at_last job spot = whole_at_end job.image.geometry (routines_in job.program) job.flips 1 spot
    job.image.table (whole_in job spot) job.script

-- Of the elements at one spot, each by itself: if it is sure to be right at the end, all three
-- copies have the number that the word machine gives it on one copy; and so has what was printed of
-- it while it was sure to be right
pub record ElementsRight (t : List TextOp) (job : GuardJob) (banks : Banks) (spot : Spot) : Type 0
  where
    pub held : HoldsWhole job.image.geometry banks spot (whole_at_last job spot)
        (table_at_last job) (lone_by t job)
    pub printed : AllPrintWhole job.image.geometry (routines_in job.program) (meaning_in t)
        job.flips 1 spot (whole_in job spot) job.image.table (opened job.image) (lone_first job)
        job.script

-- By the ops of a text that the program does: the replies and the table are those of the text's
-- operations, whatever the flips are, and no walk was stuck; and at each spot the elements that are
-- sure to be right by their hits are, whatever befell others
pub record GuardedWords (t : List TextOp) (job : GuardJob) (banks : Banks) : Type 0 where
  pub replies : replies_of job ≡ replies_by t job
  pub walks : AllByRecursion IsNoBadWalk (replies_by t job)
  pub table : table_at_last job ≡ guarded_table_at_end job.image.geometry (operations_by t job)
      job.image.table job.script
  pub triples : first_stranger (table_at_last job) ≡ None
  pub elements : (spot : Spot) → spot.column < column_count job.image.geometry
      → ElementsRight t job banks spot

-- What a guarded run promises, for every FLIPS: one job, that of the files at entry; PROG, whose
-- entries take exactly the row commands of their ops' statements at each width; what stands and was
-- sent, row by row; and by each text that the program does, that of OPS among them,
-- what that is in words. All files but PROG and OUT are as at entry
pub record Guarded (names : GuardNames) (before after : Files) (old new : World) (status : ℕ)
    : Type 0 where
  pub text : List TextOp
  pub job : GuardJob
  pub of_files : IsRunJob (run_names names) before (job_by text job)
  pub short : first_long_name job.script ≡ None
  pub triples : first_stranger job.image.table ≡ None
  pub flips_are : read_as (flips_in job.image.geometry (length job.script))
      (before names.flips.now) ≡ Some job.flips
  pub program_written : ProgramWritten (run_names names) (job_by text job) after
  pub exact : AreExact job.program of_files.ops
  pub rows : GuardedRows names.out.now job after old new status
  pub words : (t : List TextOp) → ImplementsAll job.program t → GuardedWords t job new.chip.banks
  pub others : (other : List ℕ) → other ≢ names.prog.now → other ≢ names.out.now
      → after other ≡ before other
