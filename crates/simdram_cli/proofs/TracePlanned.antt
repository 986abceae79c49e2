-- The facts of `trace`: its statuses, its files and its memory.
use Rattle.simdram_cli.proofs.Common.{◌≡◌, ℕ, Bool, true, false, List, [], ◌∷◌, ◌++◌, Option, None}
use Rattle.simdram_cli.proofs.Common.{refl, Files, Instruction, IsProgramFile, Image, opened, Ahead}
use Rattle.simdram_cli.proofs.Common.{pieces, Program, routines_in, file_in, Makes, Store, Gives}
use Rattle.simdram_cli.proofs.Common.{GoodFor, NotTen, TakesFirst, OfSteps, of_more}
use Rattle.simdram_cli.specs.declared.words.Command.TheVariants.{Trace}
use Rattle.simdram_cli.specs.declared.words.TraceNames.{TraceNames}
use Rattle.simdram_cli.specs.declared.words.TheConstants.{IMAGE_MAX, PROG_MAX, SCRIPT_MAX}
use Rattle.simdram_cli.specs.Commands.{CanAnswer}
use Rattle.simdram_cli.specs.Commands.{AreGood}
use Rattle.simdram_cli.specs.Inputs.{image_of, script_in}
use Rattle.simdram_cli.specs.Job.{image_by, reading_by, refused_by, script_steps}
use Rattle.simdram_cli.specs.Programs.{prog_in}
use Rattle.simdram_cli.specs.Tracing.{fits, full_plan, recorded_steps, store_steps, total_steps}
use Rattle.simdram_cli.specs.Tracing.{trace_image_plan, trace_job_plan, trace_plan, traced_plan}
use Rattle.simdram_cli.specs.Tracing.{traced_steps}
use Rattle.simdram_cli.proofs.JobPlans.{good_file, image_refuses, prog_refuses, script_refuses}
use Rattle.simdram_cli.proofs.JobPlans.{status_so}
use Rattle.simdram_cli.proofs.Planned.{GivesOwn, IsFailing, IsOneOf}
use Rattle.simdram_cli.proofs.WorkSteps.{pieces_of}

store_of : (P : ℕ → Type 0) (all : Bool) (name : List ℕ) (program : Program)
    (script : List Instruction) (i : Image) → P 3
    → OfSteps P (store_steps all name program script i)
store_of P true name program script i three = (three, tt)
store_of P false name program script i three = tt

total_of : (P : ℕ → Type 0) (all : Bool) (program : Program) (script : List Instruction) (i : Image)
    → P 3 → OfSteps P (total_steps all program script i)
total_of P true program script i three = (three, tt)
total_of P false program script i three = tt

-- after the opening
pub recorded_of : (P : ℕ → Type 0) (names : TraceNames) (program : Program)
    (script : List Instruction) (i : Image) → P 3 → P 9
    → OfSteps P (recorded_steps names program script i
    ++ total_steps (fits program script i) program script i)
recorded_of P names program script i three nine =
    of_more P (recorded_steps names program script i)
    (total_steps (fits program script i) program script i)
    (of_more P (script_steps program script i)
    (reading_by program script i ∷ Store names.out.now (image_by program script i)
    ∷ store_steps (fits program script i) names.trace.now program script i)
    (pieces_of P i.geometry (routines_in program) Ahead i.table (opened i) 1 (pieces script) three
    nine)
    (nine, (three, store_of P (fits program script i) names.trace.now program script i three)))
    (total_of P (fits program script i) program script i three)

pub traced_of : (P : ℕ → Type 0) (names : TraceNames) (program : Program)
    (script : List Instruction) (i : Image) → P 3 → P 9 → P 10
    → OfSteps P (traced_steps names program script i)
traced_of P names program script i three nine ten =
    (ten, ((nine, ten), recorded_of P names program script i three nine))

full_gives : (F D : ℕ → Type 0) (all : Bool) (program : Program) (script : List Instruction)
    (i : Image) → F 12 → D 0 → D 8 → Gives F D (full_plan all program script i)
full_gives F D true program script i twelve zero eight =
    status_so D (refused_by program script i) zero eight
full_gives F D false program script i twelve zero eight = twelve

pub trace_gives : (names : TraceNames) → GivesOwn (Trace names) (trace_plan names)
trace_gives names =
    let F = IsFailing (Trace names) in (
      refl,
      refl,
      refl,
      prog_refuses F refl,
      λ text program u. (
        refl,
        refl,
        refl,
        script_refuses F refl,
        λ own script. (
          refl,
          refl,
          refl,
          image_refuses F refl,
          λ bytes i. (
            traced_of F names program script i refl refl refl,
            full_gives F (CanAnswer (Trace names)) (fits program script i) program script i refl refl
                refl,
          ),
        ),
      ),
    )

pub trace_takes : (names : TraceNames) → TakesFirst None (trace_plan names)
trace_takes names = (
  prog_refuses NotTen (λ e. cc),
  λ text program u. (
    script_refuses NotTen (λ e. cc),
    λ own script. (
      image_refuses NotTen (λ e. cc),
      λ bytes i. (
        recorded_of NotTen names program script i (λ e. cc) (λ e. cc),
        full_gives NotTen NotTen (fits program script i) program script i (λ e. cc) (λ e. cc)
            (λ e. cc),
      ),
    ),
  ),
)

full_good : (P : ℕ → Type 0) (all : Bool) (program : Program) (script : List Instruction)
    (i : Image) (holds : Option Files) → P 0 → P 8 → P 12
    → GoodFor P (full_plan all program script i) holds
full_good P true program script i holds zero eight twelve =
    status_so P (refused_by program script i) zero eight
full_good P false program script i holds zero eight twelve = twelve

pub trace_good : (names : TraceNames) (holds : Option Files)
    → AreGood (Trace names) (file_in holds)
    → GoodFor (IsOneOf (10 ∷ 0 ∷ 8 ∷ 12 ∷ [])) (trace_plan names) holds
trace_good names holds good =
    let P = IsOneOf (10 ∷ 0 ∷ 8 ∷ 12 ∷ []) in
    good_file P names.prog.now PROG_MAX prog_in (λ text program.
    Makes {A = Unit {0}} (λ u. IsProgramFile text) (λ u. trace_job_plan names program)) holds good.0
    (λ u file. good_file P names.script.now SCRIPT_MAX script_in
    (λ text script. trace_image_plan names good.0.value script) holds good.1
    (good_file P names.image.now IMAGE_MAX image_of
    (λ text i. traced_plan names good.0.value good.1.value i) holds good.2 (
      traced_of (λ s. s ≡ 2 → ⊥) names good.0.value good.1.value good.2.value (λ e. cc) (λ e. cc)
          (λ e. cc),
      full_good P (fits good.0.value good.1.value good.2.value) good.0.value good.1.value good.2.value
          _ refl refl refl,
    )))
