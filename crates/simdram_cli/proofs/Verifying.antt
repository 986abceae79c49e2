-- The facts of `verify`: its statuses, its files, its memory, and what one that is done promises.
use Rattle.simdram_cli.proofs.Common.{◌≡◌, ℕ, Bool, true, false, cond, List, [], ◌∷◌, ◌++◌, Option}
use Rattle.simdram_cli.proofs.Common.{None, append-nil, refl, sym, ◌∙◌, subst, list_all, Files}
use Rattle.simdram_cli.proofs.Common.{Known, text_op, World, Take, Loads, Makes, Then, file_in}
use Rattle.simdram_cli.proofs.Common.{IsDelivered, known_delivered, GoodFor, NotTen, TakesFirst}
use Rattle.std.specs.Prelude.{map}
use Rattle.verify_job.specs.declared.finding.OpFindings.{OpFindings}
use Rattle.verify_job.specs.Findings.{is_right_throughout, may_be_right_throughout, status_of}
use Rattle.verify_job.specs.Report.{report}
use Rattle.verify_job.proofs.Found.{all_right}
use Rattle.simdram_cli.specs.declared.words.Command.TheVariants.{Verify}
use Rattle.simdram_cli.specs.declared.words.VerifyNames.{VerifyNames}
use Rattle.simdram_cli.specs.declared.words.TheConstants.{OPS_MAX, PROG_MAX}
use Rattle.simdram_cli.specs.Commands.{CanAnswer}
use Rattle.simdram_cli.specs.GoodFiles.{IsOps, IsProg}
use Rattle.simdram_cli.specs.Inputs.{ops_in}
use Rattle.simdram_cli.specs.Programs.{prog_in}
use Rattle.simdram_cli.specs.Verify.{IsFound, Verified, found_plan}
use Rattle.simdram_cli.specs.Verify.{verify_plan}
use Rattle.simdram_cli.proofs.JobPlans.{good_file, ops_refuses, prog_refuses}
use Rattle.simdram_cli.proofs.Migrating.{read_from}
use Rattle.simdram_cli.proofs.OpsPlans.{spells_at}
use Rattle.simdram_cli.proofs.Planned.{GivesOwn, IsFailing, IsOneOf, Proved, spares_by, verify_tells}

status_so : (P : ℕ → Type 0) (a b : Bool) → P 0 → P 19 → P 20 → P (cond a 0 (cond b 20 19))
status_so P true b zero wrong unknown = zero
status_so P false true zero wrong unknown = unknown
status_so P false false zero wrong unknown = wrong

-- the statuses of findings
found_so : (P : ℕ → Type 0) (findings : List OpFindings) → P 0 → P 19 → P 20 → P (status_of findings)
found_so P findings zero wrong unknown =
    status_so P (list_all is_right_throughout findings)
    (list_all may_be_right_throughout findings) zero wrong unknown

verify_gives : (names : VerifyNames) → GivesOwn (Verify names) (verify_plan names)
verify_gives names = (
  refl,
  refl,
  refl,
  ops_refuses (IsFailing (Verify names)) refl,
  λ ops_text u. (
    refl,
    refl,
    refl,
    prog_refuses (IsFailing (Verify names)) refl,
    λ prog_text program. (
      (refl, tt),
      λ found. (
        (refl, tt),
        found_so (CanAnswer (Verify names)) found.findings refl refl refl,
      ),
    ),
  ),
)

pub verify_takes : (names : VerifyNames) → TakesFirst None (verify_plan names)
verify_takes names = (
  ops_refuses NotTen (λ e. cc),
  λ ops_text u. (
    prog_refuses NotTen (λ e. cc),
    λ prog_text program found. (
      tt,
      found_so NotTen found.findings (λ e. cc) (λ e. cc) (λ e. cc),
    ),
  ),
)

pub verify_good : (names : VerifyNames) (holds : Option Files)
    → IsOps (file_in holds names.ops.now) × IsProg (file_in holds names.prog.now)
    → GoodFor (IsOneOf (10 ∷ 0 ∷ 19 ∷ 20 ∷ [])) (verify_plan names) holds
verify_good names holds good =
    let P = IsOneOf (10 ∷ 0 ∷ 19 ∷ 20 ∷ []) in
    good_file P names.ops.now OPS_MAX ops_in (λ ops_text u.
    Loads names.prog.now PROG_MAX prog_in (λ prog_text program.
    Then (Take ∷ []) (Makes (IsFound names.widths.items ops_text prog_text program)
    (λ found. found_plan names.widths.items found)))) holds good.0
    (good_file P names.prog.now PROG_MAX prog_in (λ prog_text program.
    Then (Take ∷ []) (Makes (IsFound names.widths.items good.0.text prog_text program)
    (λ found. found_plan names.widths.items found))) holds good.1
    (((λ e. cc), tt), λ found is. (((λ e. cc), tt), found_so P found.findings refl refl refl)))

-- a verification whose report was sent keeps its promises
pub verified : (names : VerifyNames) (old new : World) (status : ℕ)
    → IsDelivered (verify_plan names) old new status
    → Known (λ before after. Verified names before after old new status) old.files.holds
    new.files.holds
verified names old new status d =
    known_delivered (verify_plan names) old new status
    (λ before after. Verified names before after old new status) d
    (λ before after said sent (
      ops_text,
      ops_there,
      u,
      ops_is,
      (prog_text, prog_there, program, prog_is, (found, is, (same, all, answers, left))),
    ).
    let own = read_from (before names.prog.now) prog_text program prog_there prog_is is.file in
    record {
      ops = found.ops;
      program = program;
      version = own.version;
      findings = found.findings;
      ops_are = spells_at (before names.ops.now) ops_text found.ops ops_there is.ops;
      legal = own.legal;
      has = own.has;
      prog_is = own.is;
      are = is.are;
      answers = answers;
      right = λ zero. all_right names.widths.items program (map text_op found.ops) found.findings
          (sym answers ∙ zero) is.are;
      files = same;
      sent = subst (λ (bytes : List ℕ). Known (λ x y. y ≡ x ++ bytes) old.sink.sent new.sink.sent)
          (all ∙ append-nil (report names.widths.items found.ops found.findings)) sent;
    })

pub verify_proved : (names : VerifyNames) → Proved (Verify names)
verify_proved names = record {
  gives = verify_gives names;
  not_one = λ can. cc;
  good = λ holds are good. verify_good names holds good;
  spares = spares_by None (verify_plan names) (verify_takes names);
  tells = verify_tells;
  promised = λ old new status d. verified names old new status d.delivers;
}
