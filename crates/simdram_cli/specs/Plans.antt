-- What the plans of the commands share: what a function's result says, a job, and a compilation.
use Rattle.std.specs.Prelude.{ℕ, List, [], ◌∷◌, Result, Ok, Err}
use Rattle.std.specs.List.{AllByRecursion}
use Rattle.dram_model.specs.View.{ChipView}
use Rattle.object_alloc.specs.Spelling.{IsImage}
use Rattle.uprog_bin.specs.Spelling.{program_bytes}
use Rattle.bbop_isa.specs.Forms.{Instruction}
use Rattle.machine_model.specs.Agrees.{IsPlain}
use Rattle.machine_model.specs.Opened.{Image}
use Rattle.machine_model.specs.Routines.{Program}
use Rattle.cli_model.specs.Status.{reason_status}
use Rattle.cli_model.specs.Steps.{Reason, Take, Store}
use Rattle.cli_model.specs.Plan.{Plan, Loads, Makes, Then, Answers}
use Rattle.simdram_cli.specs.declared.completion.Completion.{Completion}
use Rattle.simdram_cli.specs.declared.completion.Completion.TheVariants.{AllDone, Found}
use Rattle.simdram_cli.specs.declared.completion.Completion.TheVariants.{SomeRefused}
use Rattle.simdram_cli.specs.declared.job.JobNames.{JobNames}
use Rattle.simdram_cli.specs.declared.stop.Stop.{Stop}
use Rattle.simdram_cli.specs.declared.words.TheConstants.{IMAGE_MAX, OPS_MAX, SCRIPT_MAX}
use Rattle.simdram_cli.specs.Ends.{IsCompiled}
use Rattle.simdram_cli.specs.Inputs.{image_of, ops_in, script_in}
use Rattle.simdram_cli.specs.Job.{done_status, refused_by, work_steps}
use Rattle.simdram_cli.specs.Stops.{reason_of}
use Rattle.simdram_cli.specs.Works.{WorkDone}

-- the exit status of a command that is done
abbrev pub completion_status : Completion → ℕ
completion_status AllDone = 0
completion_status SomeRefused = 8
completion_status (Found status) = status

-- what a command's function says: its status, or why it stopped
abbrev pub said_of : Result Completion Stop → Result ℕ Reason
said_of (Ok completion) = Ok (completion_status completion)
said_of (Err stop) = Err (reason_of stop)

-- and of a script, of which so many instructions were refused
abbrev pub script_said : Result ℕ Stop → Result ℕ Reason
script_said (Ok refused) = Ok (done_status refused)
script_said (Err stop) = Err (reason_of stop)

-- the exit status of a command
abbrev pub answer_to : Result Completion Stop → ℕ
answer_to (Ok completion) = completion_status completion
answer_to (Err stop) = reason_status (reason_of stop)

-- the script that was read was done on the image that was read
abbrev pub JobLeft : Program → List Instruction → Image → ChipView → Type 0
JobLeft program script i chip = IsImage i.geometry i.table i.rows × AllByRecursion IsPlain script
    × WorkDone program script i chip (refused_by program script i)

-- a script is done on an image
abbrev pub work_plan : List ℕ → Program → List Instruction → Image → Plan
work_plan out program script i = Then (work_steps out program script i)
    (Answers (done_status (refused_by program script i)) (JobLeft program script i))

-- IMAGE is loaded, and the script is done on it
abbrev pub image_plan : JobNames → Program → List Instruction → Plan
image_plan names program script = Loads names.image.now IMAGE_MAX image_of (λ text i.
    work_plan names.out.now program script i)

-- SCRIPT is loaded, and is done on IMAGE
abbrev pub job_plan : JobNames → Program → Plan
job_plan names program = Loads names.script.now SCRIPT_MAX script_in (λ text script.
    image_plan names program script)

-- OPS is loaded, a program made of it and stored as PROG; one that was stored does the ops of OPS,
-- and goes on
abbrev pub compiled_plan : (ops prog : List ℕ) → (Program → Plan) → Plan
compiled_plan ops prog rest = Loads ops OPS_MAX ops_in (λ text u.
    Makes {A = Program} (λ program. Unit {0}) (λ program.
    Then (Take ∷ Store prog (program_bytes 2 program) ∷ [])
    (Makes {A = Unit {0}} (λ v. IsCompiled text program) (λ v. rest program))))
