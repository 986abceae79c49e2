-- The facts of `exec`: its statuses, its files, its memory, and what one that is done promises.
use Rattle.simdram_cli.proofs.Common.{◌≡◌, ℕ, List, [], ◌∷◌, ◌++◌, Option, Some, None, refl, sym}
use Rattle.simdram_cli.proofs.Common.{◌∙◌, ap, subst, result_ok, Files, Known, lines, total_line}
use Rattle.simdram_cli.proofs.Common.{Instruction, IsProgram, Image, Program, World, with_file}
use Rattle.simdram_cli.proofs.Common.{IsProgramFile, Makes, GoodFor, NotTen, TakesFirst, file_in}
use Rattle.simdram_cli.proofs.Common.{IsDelivered, known_delivered, at_other, at_own, bytes_differ}
use Rattle.simdram_cli.specs.Plans.{job_plan}
use Rattle.simdram_cli.specs.declared.words.Command.TheVariants.{Exec}
use Rattle.simdram_cli.specs.declared.words.ExecNames.{ExecNames}
use Rattle.simdram_cli.specs.declared.words.TheConstants.{PROG_MAX}
use Rattle.simdram_cli.specs.Commands.{AreGood}
use Rattle.simdram_cli.specs.Exec.{Executed, exec_names, exec_plan}
use Rattle.simdram_cli.specs.Headline.{read_as}
use Rattle.simdram_cli.specs.Inputs.{image_of, script_in}
use Rattle.simdram_cli.specs.Job.{done_status, image_by, refused_by, said_in, tally_by}
use Rattle.simdram_cli.specs.Programs.{prog_in}
use Rattle.simdram_cli.proofs.Executing.{by_text, file_program, rows_stay, stays_inside}
use Rattle.simdram_cli.proofs.JobPlans.{good_file, job_gives, job_good, job_takes, prog_refuses}
use Rattle.simdram_cli.proofs.Planned.{GivesOwn, IsFailing, IsOneOf, Proved, spares_by, zero_or_eight_tells}
use Rattle.simdram_cli.proofs.Promised.{RowsDone, work_files, work_sent}
use Rattle.simdram_cli.specs.Commands.{CanAnswer}

pub exec_gives : (names : ExecNames) → GivesOwn (Exec names) (exec_plan names)
exec_gives names =
    let F = IsFailing (Exec names) in (
      refl,
      refl,
      refl,
      prog_refuses F refl,
      λ text program u.
          job_gives F (CanAnswer (Exec names)) (exec_names names) program
          (refl, (refl, (refl, (refl, (refl, (refl, (refl, tt))))))) refl refl,
    )

pub exec_takes : (names : ExecNames) → TakesFirst None (exec_plan names)
exec_takes names = (
  prog_refuses NotTen (λ e. cc),
  λ text program u.
      job_takes None (exec_names names) program,
)

pub exec_good : (names : ExecNames) (holds : Option Files) → AreGood (Exec names) (file_in holds)
    → GoodFor (IsOneOf (10 ∷ 0 ∷ 8 ∷ [])) (exec_plan names) holds
exec_good names holds good =
    let P = IsOneOf (10 ∷ 0 ∷ 8 ∷ []) in
    good_file P names.prog.now PROG_MAX prog_in (λ text program.
    Makes {A = Unit {0}} (λ u. IsProgramFile text) (λ u. job_plan (exec_names names) program)) holds
    good.0 (λ u file.
    job_good P (exec_names names) good.0.value holds good.1 good.2 refl refl)

-- an execution of what was read, by the rows that it leaves, the file and the bytes sent
abbrev pub executed_so : (names : ExecNames) (program : Program) (script : List Instruction) (i : Image)
    (before after : Files) (old new : World) (status : ℕ)
    → read_as prog_in (before names.prog.now) ≡ Some program
    → read_as script_in (before names.script.now) ≡ Some script
    → read_as image_of (before names.image.now) ≡ Some i → IsProgram program
    → RowsDone script i program new.chip (refused_by program script i)
    → after ≡ with_file names.out.now (image_by program script i) before
    → Known (λ x y. y ≡ x ++ (lines 1 (said_in program script i)
    ++ total_line (tally_by program script i) (refused_by program script i))) old.sink.sent
    new.sink.sent → status ≡ done_status (refused_by program script i)
    → Executed names before after old new status
executed_so names program script i before after old new status prog_is script_is image_is legal rows
    files told answers =
    let out = names.out.now in
    let file = ap (λ (x : Files). x out) files ∙ at_own out (image_by program script i) before in
    record {
      program = program;
      script = script;
      image = i;
      prog_is = prog_is;
      script_is = script_is;
      image_is = image_is;
      legal = legal;
      plain = rows.plain;
      accepted = rows.image;
      row_by_row = record {
        work = rows.work;
        file = file;
        stay = rows_stay program script i new.chip (refused_by program script i) legal rows;
        sent = subst (λ k. Known (λ x y. y ≡ x ++ (lines 1 (said_in program script i)
            ++ total_line k (refused_by program script i))) old.sink.sent new.sink.sent)
            (sym rows.work.counters) told;
        answers = answers;
      };
      stays_inside = stays_inside program script i new.chip (refused_by program script i) legal
          rows;
      by_text = by_text out script i program (refused_by program script i) status old new after rows
          answers file told;
      others = λ other differs. ap (λ (f : Files). f other) files
          ∙ at_other other out (image_by program script i) before (bytes_differ other out differs);
    }

-- An execution that was done keeps its promises
pub exec_promised : (names : ExecNames) (old new : World) (status : ℕ)
    → IsDelivered (exec_plan names) old new status
    → Known (λ before after. Executed names before after old new status) old.files.holds
    new.files.holds
exec_promised names old new status d =
    known_delivered (exec_plan names) old new status
    (λ before after. Executed names before after old new status) d
    (λ before after said sent (
      prog,
      prog_there,
      program,
      prog_is,
      (
        u,
        is_file,
        (
          text,
          script_there,
          script,
          script_is,
          (bytes, image_there, i, image_is, (same, all, answers, left)),
        ),
      ),
    ).
    let out = names.out.now in
    executed_so names program script i before after old new status
    (ap (read_as prog_in) prog_there ∙ ap result_ok prog_is)
    (ap (read_as script_in) script_there ∙ ap result_ok script_is)
    (ap (read_as image_of) image_there ∙ ap result_ok image_is)
    (file_program prog program is_file prog_is)
    (record { image = left.0; plain = left.1; work = left.2 })
    (same ∙ work_files out program script i before)
    (subst (λ (w : List ℕ). Known (λ x y. y ≡ x ++ w) old.sink.sent new.sink.sent)
    (all ∙ work_sent out program script i) sent)
    answers)

pub exec_proved : (names : ExecNames) → Proved (Exec names)
exec_proved names = record {
  gives = exec_gives names;
  not_one = λ can. cc;
  good = λ holds are good. exec_good names holds good;
  spares = spares_by None (exec_plan names) (exec_takes names);
  tells = zero_or_eight_tells;
  promised = λ old new status d. exec_promised names old new status d.delivers;
}
