-- The command `trace`.
use Rattle.std.specs.Prelude.{◌≡◌, ◌≢◌, ◌⊎◌, ℕ, ◌+◌, ◌*◌, Bool, true, false, List, [], ◌∷◌, ◌++◌}
use Rattle.std.specs.Prelude.{◌≤◌, length, Option, Some, None, Result, Ok, Err}
use Rattle.host_edge.specs.Views.{Files}
use Rattle.dram_model.specs.Chip.{Banks, Event, after}
use Rattle.dram_model.specs.Geometry.{is_geometry}
use Rattle.dram_model.specs.View.{ChipView}
use Rattle.object_alloc.specs.Spelling.{image_bytes}
use Rattle.uprog_code.specs.Programs.{IsProgram}
use Rattle.uprog_bin.specs.Opened.{IsProgramFile}
use Rattle.bbop_isa.specs.Forms.{Instruction}
use Rattle.machine_model.specs.Laws.{TableFits}
use Rattle.machine_model.specs.Opened.{Image, rows_in_banks}
use Rattle.machine_model.specs.Routines.{Program}
use Rattle.machine_model.specs.Pieces.{events_of_pieces, pieces}
use Rattle.machine_model.specs.Report.{total_line}
use Rattle.machine_model.specs.Script.{rows_printed, sum_done, table_at_end}
use Rattle.sim_machine.specs.declared.machine.Machine.{Machine}
use Rattle.sim_machine.specs.Machine.{geometry_of, operations_by, table_in, turn_in}
use Rattle.sim_machine.specs.Opening.{machine_on}
use Rattle.trace_model.specs.Reading.{trace_in}
use Rattle.trace_model.specs.Replay.{replayed, script_trace}
use Rattle.trace_model.specs.Spelling.{Trace, bytes_of_trace}
use Rattle.trace_job.specs.Telling.{all_fit}
use Rattle.cli_model.specs.World.{World, with_file}
use Rattle.cli_model.specs.Steps.{Step, Take, Store, Put, Refusal, Refused, Done}
use Rattle.cli_model.specs.Steps.{Stopped, Goes}
use Rattle.cli_model.specs.Plan.{Answers, Loads, Makes, Plan, Refuses, Then}
use Rattle.simdram_cli.specs.declared.words.ExecNames.{ExecNames}
use Rattle.simdram_cli.specs.declared.words.TraceNames.{TraceNames}
use Rattle.simdram_cli.specs.declared.words.TheConstants.{PROG_MAX, SCRIPT_MAX, IMAGE_MAX}
use Rattle.simdram_cli.specs.declared.words.TheConstants.{TRACE_MAX}
use Rattle.simdram_cli.specs.declared.stop.Stop.{Stop}
use Rattle.simdram_cli.specs.Inputs.{script_in, image_of}
use Rattle.simdram_cli.specs.Programs.{prog_in}
use Rattle.simdram_cli.specs.Stops.{reason_of, trace_full}
use Rattle.simdram_cli.specs.Job.{done_status, image_by, pieces_steps, refused_by, script_steps}
use Rattle.simdram_cli.specs.Job.{opening, reading, reading_by, tally_by}
use Rattle.simdram_cli.specs.Plans.{JobLeft}
use Rattle.simdram_cli.specs.Works.{OpenedOn, WorkDone}
use Rattle.simdram_cli.specs.Exec.{Executed}

-- an execution on the same files, without TRACE
abbrev pub exec_of : TraceNames → ExecNames
exec_of names = record {
  prog = names.prog;
  script = names.script;
  image = names.image;
  out = names.out;
}

-- whether all events of a script fit in a recorder
abbrev pub fits : Program → List Instruction → Image → Bool
fits program script i = all_fit i.geometry (script_trace program i script).events

-- TRACE is stored, where all events fit
abbrev pub store_steps : Bool → List ℕ → Program → List Instruction → Image → List Step
store_steps true trace program script i =
    Store trace (bytes_of_trace (script_trace program i script)) ∷ []
store_steps false trace program script i = []

-- the line of the totals is sent, where all events fit
abbrev pub total_steps : Bool → Program → List Instruction → Image → List Step
total_steps true program script i =
    Put (total_line (tally_by program script i) (refused_by program script i)) ∷ []
total_steps false program script i = []

-- the script is done on the opened chip, and the image after it is stored; and then TRACE is
abbrev pub recorded_steps : TraceNames → Program → List Instruction → Image → List Step
recorded_steps names program script i =
    script_steps program script i
    ++ (reading_by program script i ∷ Store names.out.now (image_by program script i)
    ∷ store_steps (fits program script i) names.trace.now program script i)

-- memory is taken for a recorder, and the chip begins with the image
abbrev pub traced_steps : TraceNames → Program → List Instruction → Image → List Step
traced_steps names program script i =
    Take ∷ opening i ∷ (recorded_steps names program script i
    ++ total_steps (fits program script i) program script i)

-- why a trace is not stored whose steps were done, if it is not
abbrev pub unless_fits : Bool → Option Refusal
unless_fits true = None
unless_fits false = Some trace_full

-- what a chip shows but for its log
abbrev pub unlogged : ChipView → ChipView
unlogged chip = record chip { log = None }

-- all that the outside shows, but for the chip's log
abbrev pub unlogged_world : World → World
unlogged_world w = record w { chip = unlogged w.chip }

-- what stands in the chip after it, but for its log
abbrev pub TraceLeft : Program → List Instruction → Image → ChipView → Type 0
TraceLeft program script i chip = JobLeft program script i (unlogged chip)

-- where all events fit it is done, with an execution's status; else it is refused, which is told
-- last
abbrev pub full_plan : Bool → Program → List Instruction → Image → Plan
full_plan true program script i =
    Answers (done_status (refused_by program script i)) (TraceLeft program script i)
full_plan false program script i = Refuses trace_full (TraceLeft program script i)

-- a script is done on an image over a recorder
abbrev pub traced_plan : TraceNames → Program → List Instruction → Image → Plan
traced_plan names program script i = Then (traced_steps names program script i)
    (full_plan (fits program script i) program script i)

-- IMAGE is loaded, and the script is done on it
abbrev pub trace_image_plan : TraceNames → Program → List Instruction → Plan
trace_image_plan names program script = Loads names.image.now IMAGE_MAX image_of (λ text i.
    traced_plan names program script i)

-- SCRIPT is loaded, and is done on IMAGE
abbrev pub trace_job_plan : TraceNames → Program → Plan
trace_job_plan names program = Loads names.script.now SCRIPT_MAX script_in (λ text script.
    trace_image_plan names program script)

-- PROG is loaded, a program file, and SCRIPT is done on IMAGE with its program
abbrev pub trace_plan : TraceNames → Plan
trace_plan names = Loads names.prog.now PROG_MAX prog_in (λ text program.
    Makes {A = Unit {0}} (λ u. IsProgramFile text) (λ u. trace_job_plan names program))

-- the trace of an execution that was done
abbrev pub trace_of : {names : ExecNames} {before between : Files} {old new : World} {status : ℕ}
    → Executed names before between old new status → Trace
trace_of e = script_trace e.program e.image e.script

-- What it promises. All that an execution does, of the files as they were before TRACE was stored,
-- but for the chip's own log. TRACE is the spelling of one trace: IMAGE's geometry, the table after
-- the script, and the events of the instructions that are done, in order, each wave under the order
-- in force. It is not too long for a replay and is accepted as that trace, and OUT has the trace's
-- objects and the rows that these events leave from IMAGE's. All files but OUT and TRACE are as at
-- entry
pub record Traced (names : TraceNames) (before after : Files) (old new : World) (status : ℕ)
    : Type 0 where
  pub between : Files
  pub executed : Executed (exec_of names) before between old (unlogged_world new) status
  pub stored : after ≡ with_file names.trace.now (bytes_of_trace (trace_of executed)) between
  pub fit : all_fit executed.image.geometry (trace_of executed).events ≡ true
  pub within : length (bytes_of_trace (trace_of executed)) ≤ TRACE_MAX
  pub accepted : trace_in (bytes_of_trace (trace_of executed)) ≡ Ok (trace_of executed)
  pub replays : after names.out.now ≡ Some (image_bytes executed.image.geometry
      (trace_of executed).table
      (rows_in_banks (replayed (trace_of executed).events executed.image)))
  pub others : (other : List ℕ) → other ≢ names.out.now → other ≢ names.trace.now
      → after other ≡ before other

-- what its parts come to, for its proof

-- the steps of a script on a machine
abbrev pub steps_on : Machine → Banks → List Instruction → List Step
steps_on m banks script =
    pieces_steps (geometry_of m) (operations_by m) (turn_in m) (table_in m) banks 1 (pieces script)

-- the events of a script on a machine
abbrev pub events_on : Machine → List Instruction → List Event
events_on m script =
    events_of_pieces (geometry_of m) (operations_by m) (turn_in m) (table_in m) (pieces script)

-- the image after a script on a machine
abbrev pub image_on : Machine → Banks → List Instruction → List ℕ
image_on m banks script =
    image_bytes (geometry_of m) (table_at_end (geometry_of m) (operations_by m) (table_in m) script)
    (rows_in_banks (after (events_on m script) banks))

-- every row is read after a script on a machine
abbrev pub reading_on : Machine → Banks → List Instruction → Step
reading_on m banks script = reading (geometry_of m) (after (events_on m script) banks)

-- how many rows are read: those of the prints, and all for the image
abbrev pub reads_on : Machine → List Instruction → ℕ
reads_on m script =
    sum_done rows_printed (geometry_of m) (operations_by m) (table_in m) script
    + (geometry_of m).banks * (geometry_of m).rows

-- the steps were done and all events fit; or they were done, and the events do not; or one failed
abbrev pub Came : List Step → Option Refusal → (ChipView → ℕ → Type 0) → Result ℕ Stop → World
    → World → Type 0
Came steps full done (Ok refused) old new =
    (full ≡ None) × Goes steps Done old new × done (unlogged new.chip) refused
Came steps full done (Err stop) old new = Goes steps (Stopped (reason_of stop)) old new
    ⊎ ((said : Refusal) × (full ≡ Some said) × (reason_of stop ≡ Refused said)
    × Goes steps Done old new × ((refused : ℕ) × done (unlogged new.chip) refused))

-- A machine was opened on an image with an accepted program, and so was its chip
pub record OpensOn (program : Program) (i : Image) (m : Machine) (chip : ChipView) : Type 0 where
  pub legal : IsProgram program
  pub shape : is_geometry i.geometry ≡ true
  pub fits : TableFits i.geometry i.table
  pub machine_is : m ≡ machine_on i.geometry program i.table
  pub opened_on : OpenedOn i chip

-- the script was done on its chip
abbrev pub ScriptRecorded : TraceNames → Program → List Instruction → Image → World → World
    → Result ℕ Stop → Type 0
ScriptRecorded names program script i old new result =
    Came (recorded_steps names program script i) (unless_fits (fits program script i))
    (WorkDone program script i) result old new

-- and was done on the image, from the opening on
abbrev pub ScriptTraced : TraceNames → Program → List Instruction → Image → World → World
    → Result ℕ Stop → Type 0
ScriptTraced names program script i old new result =
    Came (traced_steps names program script i) (unless_fits (fits program script i))
    (WorkDone program script i) result old new
