-- A job goes by its plan.
use Rattle.simdram_cli.proofs.Common.{inl, ◌≡◌, ℕ, Bool, true, false, cond, List, [], ◌∷◌, Option}
use Rattle.simdram_cli.proofs.Common.{Some, None, refl, sym, ap, subst, Result, Ok, Err, IfOk}
use Rattle.simdram_cli.proofs.Common.{IfErr, nat_lt, AllByRecursion, ChipView, Files, FolderView}
use Rattle.simdram_cli.proofs.Common.{SinkView, ScriptFault, Instruction, script_of, ImageNo, Found}
use Rattle.simdram_cli.proofs.Common.{ImageFault, IsFault, image_in, IsImage, OpsFault, fault_in}
use Rattle.simdram_cli.proofs.Common.{ProgFault, IsPlain, Image, Program, World, world, Goes}
use Rattle.simdram_cli.proofs.Common.{Refusal, GoodFor, Gives, NotTen, TakesFirst, file_in, Answers}
use Rattle.simdram_cli.proofs.Common.{Loads, Plan, LoadedAs, Runs, refused, unparsed, runs_answered}
use Rattle.simdram_cli.proofs.Common.{runs_stopped, runs_then}
use Rattle.uprog_bin.specs.Reading.{program_in}
use Rattle.object_alloc.specs.declared.fault.ImageNo.TheVariants as no
use Rattle.simdram_cli.specs.declared.job.JobNames.{JobNames}
use Rattle.simdram_cli.specs.declared.stop.Stop.{Stop}
use Rattle.simdram_cli.specs.declared.words.TheConstants.{IMAGE_MAX, SCRIPT_MAX}
use Rattle.simdram_cli.specs.GoodFiles.{IsGood, IsImageFile, IsScript}
use Rattle.simdram_cli.specs.Inputs.{image_of, image_or_refusal, image_refusal, ops_in, script_in}
use Rattle.simdram_cli.specs.Inputs.{script_or_refusal, unless_fault}
use Rattle.simdram_cli.specs.Job.{done_status, refused_by, work_steps}
use Rattle.simdram_cli.specs.Plans.{JobLeft, image_plan, job_plan, said_of, script_said, work_plan}
use Rattle.simdram_cli.specs.Programs.{prog_in, program_or_refusal}
use Rattle.simdram_cli.specs.Stops.{end_of, image_reason, reason_of}
use Rattle.simdram_cli.specs.Works.{WorkDone}
use Rattle.simdram_cli.proofs.WorkSteps.{after_open, work_of}

-- the script was done on the image, as far as nothing failed
pub work_runs : (out : List ℕ) (program : Program) (script : List Instruction) (i : Image)
    (result : Result ℕ Stop) (old new : World) → IsImage i.geometry i.table i.rows
    → AllByRecursion IsPlain script → Goes (work_steps out program script i) (end_of result) old new
    → IfOk result (WorkDone program script i new.chip)
    → Runs (work_plan out program script i) old new (script_said result)
work_runs out program script i (Ok refused) old new is plain g w =
    let status = done_status (refused_by program script i) in
    let left = JobLeft program script i in
    runs_then (work_steps out program script i) (Answers status left) (script_said (Ok refused)) old new
    new g (subst (λ n. Runs (Answers status left) new new (Ok n))
    (sym (ap done_status w.refused_is)) (runs_answered status left new (
      is,
      plain,
      record {
        begun = w.begun;
        geometry = w.geometry;
        banks = w.banks;
        counters = w.counters;
        log = w.log;
        refused_is = refl;
      },
    )))
work_runs out program script i (Err stop) old new is plain g w =
    runs_stopped (work_steps out program script i) _ (reason_of stop) old new g

-- IMAGE was loaded, and is not read
pub image_not_read : (rest : List ℕ → Image → Plan) (name : List ℕ) (stop : Stop) (why : ImageNo)
    (text : List ℕ) (old new : FolderView) (sink : SinkView) (chip : ChipView)
    → LoadedAs name IMAGE_MAX text old new → IsFault why (image_in text)
    → reason_of stop ≡ image_reason why
    → Runs (Loads name IMAGE_MAX image_of rest) (world old sink chip) (world new sink chip)
    (said_of (Err stop))
image_not_read rest name stop (no.Fault fault) text old new sink chip l e f =
    rw f (refused name IMAGE_MAX image_of rest text (image_refusal fault) old new sink chip l
    (ap image_or_refusal e))
image_not_read rest name stop no.NoMemory text old new sink chip l e f =
    rw f (unparsed name IMAGE_MAX image_of rest text old new sink chip l)

-- which statuses the texts are refused with

ops_so : (P : ℕ → Type 0) (fault : Option OpsFault) → P 4
    → IfErr (unless_fault fault) (λ refusal. P refusal.status)
ops_so P None four = tt
ops_so P (Some fault) four = four

pub ops_refuses : (P : ℕ → Type 0) → P 4 → (text : List ℕ)
    → IfErr (ops_in text) (λ refusal. P refusal.status)
ops_refuses P four text = ops_so P (fault_in text) four

script_so : (P : ℕ → Type 0) (r : Result (List Instruction) ScriptFault) → P 6
    → IfErr (script_or_refusal r) (λ refusal. P refusal.status)
script_so P (Ok script) six = tt
script_so P (Err fault) six = six

pub script_refuses : (P : ℕ → Type 0) → P 6 → (text : List ℕ)
    → IfErr (script_in text) (λ refusal. P refusal.status)
script_refuses P six text = script_so P (script_of text) six

image_so : (P : ℕ → Type 0) (r : Result Found ImageFault) → P 7
    → IfErr (image_or_refusal r) (λ refusal. P refusal.status)
image_so P (Ok found) seven = tt
image_so P (Err fault) seven = seven

-- every refusal of an image has status 7
pub image_refuses : (P : ℕ → Type 0) → P 7 → (text : List ℕ)
    → IfErr (image_of text) (λ refusal. P refusal.status)
image_refuses P seven text = image_so P (image_in text) seven

prog_so : (P : ℕ → Type 0) (r : Result (ℕ × Program) ProgFault) → P 5
    → IfErr (program_or_refusal r) (λ refusal. P refusal.status)
prog_so P (Ok found) five = tt
prog_so P (Err fault) five = five

pub prog_refuses : (P : ℕ → Type 0) → P 5 → (text : List ℕ)
    → IfErr (prog_in text) (λ refusal. P refusal.status)
prog_refuses P five text = prog_so P (program_in text) five

-- a job's statuses, where it takes memory, and its files

pub done_so : (P : ℕ → Type 0) (b : Bool) → P 0 → P 8 → P (cond b 8 0)
done_so P true zero eight = eight
done_so P false zero eight = zero

pub status_so : (P : ℕ → Type 0) (refused : ℕ) → P 0 → P 8 → P (done_status refused)
status_so P refused zero eight = done_so P (nat_lt 0 refused) zero eight

pub job_gives : (F D : ℕ → Type 0) (names : JobNames) (program : Program)
    → AllByRecursion F (2 ∷ 3 ∷ 6 ∷ 7 ∷ 9 ∷ 10 ∷ 11 ∷ []) → D 0 → D 8
    → Gives F D (job_plan names program)
job_gives F D names program (two, (three, (six, (seven, (nine, (ten, (eleven, t))))))) zero eight = (
  two,
  eleven,
  ten,
  script_refuses F six,
  λ text script. (
    two,
    eleven,
    ten,
    image_refuses F seven,
    λ own i.
        (work_of F names.out.now program script i three nine ten, done_so D _ zero eight),
  ),
)

pub job_takes : (but : Option (List ℕ)) (names : JobNames) (program : Program)
    → TakesFirst but (job_plan names program)
job_takes but names program = (
  script_refuses NotTen (λ e. cc),
  λ text script. (
    image_refuses NotTen (λ e. cc),
    λ own i. (
      after_open NotTen names.out.now program script i (λ e. cc) (λ e. cc),
      done_so NotTen _ (λ e. cc) (λ e. cc),
    ),
  ),
)

-- a good file
pub good_file : {A : Type 0} (P : ℕ → Type 0) (name : List ℕ) (limit : ℕ)
    (read : List ℕ → Result A Refusal) (rest : List ℕ → A → Plan) (holds : Option Files)
    → (good : IsGood read limit (file_in holds name))
    → GoodFor P (rest good.text good.value) holds → GoodFor P (Loads name limit read rest) holds
good_file P name limit read rest holds good more =
    (good.text, good.there, good.within, inl (good.value, good.accepted, more))

pub job_good : (P : ℕ → Type 0) (names : JobNames) (program : Program) (holds : Option Files)
    → IsScript (file_in holds names.script.now) → IsImageFile (file_in holds names.image.now)
    → P 0 → P 8 → GoodFor P (job_plan names program) holds
job_good P names program holds script image zero eight =
    good_file P names.script.now SCRIPT_MAX script_in (λ text s. image_plan names program s) holds
    script (good_file P names.image.now IMAGE_MAX image_of
    (λ text i. work_plan names.out.now program script.value i) holds image (
      work_of (λ s. s ≡ 2 → ⊥) names.out.now program script.value image.value (λ e. cc) (λ e. cc)
          (λ e. cc),
      done_so P _ zero eight,
    ))
