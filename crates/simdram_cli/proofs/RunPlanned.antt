-- The facts of `run`: its statuses, its files, its memory, and what one that is done promises.
use Rattle.simdram_cli.proofs.Common.{◌≡◌, ℕ, List, [], ◌∷◌, ◌++◌, map, Option, Some, refl, sym}
use Rattle.simdram_cli.proofs.Common.{◌∙◌, ap, subst, inl, result_ok, Files, Known, Program}
use Rattle.simdram_cli.proofs.Common.{program_bytes, text_op, World, with_file, Store, Take}
use Rattle.simdram_cli.proofs.Common.{GoodFor, NotTen, TakesFirst, files_then, file_in, Makes, Then}
use Rattle.simdram_cli.proofs.Common.{IsDelivered, known_delivered, at_other, at_own}
use Rattle.simdram_cli.specs.declared.words.Command.TheVariants.{Run}
use Rattle.simdram_cli.specs.declared.words.RunNames.{RunNames}
use Rattle.simdram_cli.specs.declared.words.TheConstants.{IMAGE_MAX, OPS_MAX, SCRIPT_MAX}
use Rattle.simdram_cli.specs.Commands.{CanAnswer}
use Rattle.simdram_cli.specs.Commands.{AreGood}
use Rattle.simdram_cli.specs.Ends.{IsCompiled}
use Rattle.simdram_cli.specs.Headline.{Headline, read_as}
use Rattle.simdram_cli.specs.Inputs.{image_of, ops_in, script_in}
use Rattle.simdram_cli.specs.Job.{image_by, refused_by}
use Rattle.simdram_cli.specs.Plans.{job_plan}
use Rattle.simdram_cli.specs.Run.{job_names, run_plan}
use Rattle.simdram_cli.proofs.OpsPlans.{spells_at}
use Rattle.simdram_cli.proofs.GuardPlanned.{moved}
use Rattle.simdram_cli.proofs.JobPlans.{good_file, job_gives, job_good, job_takes, ops_refuses}
use Rattle.simdram_cli.proofs.Planned.{GivesOwn, IsFailing, IsOneOf, Proved, spares_by, zero_or_eight_tells}
use Rattle.simdram_cli.proofs.Promised.{RowsDone, is_done, kept_other}
use Rattle.simdram_cli.proofs.Promised.{replies_exact, work_files, work_sent}
use Rattle.simdram_cli.proofs.Promises.{commands_counted, job_of, objects_right, report_is}
use Rattle.simdram_cli.proofs.Promises.{rows_untouched}
use Rattle.simdram_cli.proofs.Running.{Apart, apart}

pub run_gives : (names : RunNames) → GivesOwn (Run names) (run_plan names)
run_gives names =
    let F = IsFailing (Run names) in (
      refl,
      refl,
      refl,
      ops_refuses F refl,
      λ text u program. (
        (refl, (refl, tt)),
        λ v.
            job_gives F (CanAnswer (Run names)) (job_names names) program
            (refl, (refl, (refl, (refl, (refl, (refl, (refl, tt))))))) refl refl,
      ),
    )

pub run_takes : (names : RunNames) → TakesFirst (Some names.prog.now) (run_plan names)
run_takes names = (
  ops_refuses NotTen (λ e. cc),
  λ text u program. inl (
    refl,
    λ v.
        job_takes (Some names.prog.now) (job_names names) program,
  ),
)

pub run_good : (names : RunNames) (holds : Option Files) → Apart names
    → AreGood (Run names) (file_in holds)
    → GoodFor (IsOneOf (10 ∷ 0 ∷ 8 ∷ [])) (run_plan names) holds
run_good names holds apart good =
    let P = IsOneOf (10 ∷ 0 ∷ 8 ∷ []) in
    let prog = names.prog.now in
    good_file P names.ops.now OPS_MAX ops_in (λ text u.
    Makes {A = Program} (λ program. Unit {0}) (λ program.
    Then (Take ∷ Store prog (program_bytes 2 program) ∷ [])
    (Makes {A = Unit {0}} (λ v. IsCompiled text program) (λ v. job_plan (job_names names) program))))
    holds good.0 (λ program u. (
      ((λ e. cc), ((λ e. cc), tt)),
      λ v compiled.
          job_good P (job_names names) program
          (files_then (Take ∷ Store prog (program_bytes 2 program) ∷ []) holds)
          (moved script_in SCRIPT_MAX names.script.now prog (program_bytes 2 program) holds
          apart.others.script good.1)
          (moved image_of IMAGE_MAX names.image.now prog (program_bytes 2 program) holds
          apart.others.image good.2) refl refl,
    ))

-- A run that was done keeps its promises
pub run_promised : (names : RunNames) (old new : World) (status : ℕ) → Apart names
    → IsDelivered (run_plan names) old new status
    → Known (λ before after. Headline names before after old new status) old.files.holds
    new.files.holds
run_promised names old new status apart d =
    known_delivered (run_plan names) old new status
    (λ before after. Headline names before after old new status) d
    (λ before after said sent (
      ops,
      ops_there,
      u,
      ops_is,
      (
        program,
        v,
        (
          w,
          compiled,
          (
            script_text,
            script_there,
            script,
            script_is,
            (image_text, image_there, i, image_is, (same, all, answers, left)),
          ),
        ),
      ),
    ).
    let out = names.out.now in
    let bytes = program_bytes 2 program in
    let stored = with_file names.prog.now bytes before in
    let refused = refused_by program script i in
    let t = map text_op compiled.ops in
    let rows : RowsDone script i program new.chip refused =
    record { image = left.0; plain = left.1; work = left.2 } in
    let done = is_done t script i program new.chip refused rows compiled.implements in
    let files = same ∙ work_files out program script i stored in
    let told = subst (λ (w : List ℕ). Known (λ x y. y ≡ x ++ w) old.sink.sent new.sink.sent)
    (all ∙ work_sent out program script i) sent in
    record {
      job = job_of t script i program;
      of_files = record {
        ops = compiled.ops;
        are = spells_at (before names.ops.now) ops compiled.ops ops_there compiled.is;
        text = refl;
        script = ap (read_as script_in)
            (sym (at_other names.script.now names.prog.now bytes before apart.others.script)
            ∙ script_there) ∙ ap result_ok script_is;
        image = ap (read_as image_of)
            (sym (at_other names.image.now names.prog.now bytes before apart.others.image)
            ∙ image_there) ∙ ap result_ok image_is;
      };
      program_written = record {
        file = ap (λ (x : Files). x names.prog.now) files
            ∙ at_other names.prog.now out (image_by program script i) stored apart.prog_out
            ∙ at_own names.prog.now bytes before;
        legal = compiled.legal;
        implements = compiled.implements;
        taken = compiled.taken;
      };
      exact = compiled.exact;
      objects_right = objects_right out t script i program new.chip refused after done
          (ap (λ (x : Files). x out) files ∙ at_own out (image_by program script i) stored);
      rows_untouched = rows_untouched t script i program new.chip refused done;
      commands_counted = commands_counted t script i program new.chip refused done;
      report_sent = subst (λ (w : List ℕ). Known (λ x y. y ≡ x ++ w) old.sink.sent new.sink.sent)
          (report_is t script i program new.chip refused done) told;
      replies_exact = replies_exact t script i program new.chip refused status done answers;
      others = kept_other names.prog.now out bytes (image_by program script i) before after files;
    })

pub run_proved : (names : RunNames) → Proved (Run names)
run_proved names = record {
  gives = run_gives names;
  not_one = λ can. cc;
  good = λ holds are good. run_good names holds (apart names are) good;
  spares = spares_by (Some names.prog.now) (run_plan names) (run_takes names);
  tells = zero_or_eight_tells;
  promised = λ old new status d.
      run_promised names old new status (apart names d.apart) d.delivers;
}
