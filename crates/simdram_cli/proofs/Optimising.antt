-- The facts of `optimise`: its statuses, its files, its memory, and what one that is done leaves.
use Rattle.simdram_cli.proofs.Common.{◌≡◌, ℕ, List, [], ◌∷◌, ◌++◌, Option, None, refl, ◌∙◌, ap}
use Rattle.simdram_cli.proofs.Common.{subst, append-nil, inr, sym, Some, Files, Known, text_op}
use Rattle.simdram_cli.proofs.Common.{IsProgram, program_bytes, read, Program, AreOutcomes, World}
use Rattle.simdram_cli.proofs.Common.{Take, Loads, Makes, Then, file_in, IsDelivered}
use Rattle.simdram_cli.proofs.Common.{known_delivered, at_other, at_own, bytes_differ, GoodFor}
use Rattle.simdram_cli.proofs.Common.{NotTen, TakesFirst}
use Rattle.std.proofs.Common.{Ok}
use Rattle.std.specs.Prelude.{map}
use Rattle.optimise_job.specs.Report.{report}
use Rattle.optimise_job.proofs.AsGood.{all_good}
use Rattle.optimise_job.proofs.Implemented.{still_implement}
use Rattle.optimise_job.proofs.Right.{all_right}
use Rattle.simdram_cli.specs.declared.words.Command.TheVariants.{Optimise}
use Rattle.simdram_cli.specs.declared.words.OptimiseNames.{OptimiseNames}
use Rattle.simdram_cli.specs.declared.words.TheConstants.{OPS_MAX, PROG_MAX}
use Rattle.simdram_cli.specs.GoodFiles.{IsOps, IsProg}
use Rattle.simdram_cli.specs.Inputs.{ops_in}
use Rattle.simdram_cli.specs.Optimise.{IsMade, Optimised, made_plan, optimise_plan, room_for}
use Rattle.simdram_cli.specs.Programs.{prog_in, program_or_refusal}
use Rattle.simdram_cli.specs.Commands.{HasNumbers}
use Rattle.simdram_cli.proofs.JobPlans.{good_file, ops_refuses, prog_refuses}
use Rattle.simdram_cli.proofs.Migrating.{read_from}
use Rattle.simdram_cli.proofs.OpsPlans.{spells_at}
use Rattle.simdram_cli.proofs.Planned.{GivesOwn, IsFailing, IsOneOf, Proved, spares_by, zero_tells}

pub optimise_gives : (names : OptimiseNames) → GivesOwn (Optimise names) (optimise_plan names)
optimise_gives names = (
  refl,
  refl,
  refl,
  ops_refuses (IsFailing (Optimise names)) refl,
  λ ops_text u. (
    refl,
    refl,
    refl,
    prog_refuses (IsFailing (Optimise names)) refl,
    λ prog_text program. (
      (refl, tt),
      λ made. ((refl, tt), ((refl, tt), refl)),
    ),
  ),
)

pub optimise_takes : (names : OptimiseNames) → TakesFirst None (optimise_plan names)
optimise_takes names = (
  ops_refuses NotTen (λ e. cc),
  λ ops_text u. (
    prog_refuses NotTen (λ e. cc),
    λ prog_text program made.
        inr (tt, (((λ e. cc), tt), (λ e. cc))),
  ),
)

pub optimise_good : (names : OptimiseNames) (holds : Option Files)
    → IsOps (file_in holds names.ops.now) × IsProg (file_in holds names.prog.now)
    → GoodFor (IsOneOf (10 ∷ 0 ∷ [])) (optimise_plan names) holds
optimise_good names holds good =
    let P = IsOneOf (10 ∷ 0 ∷ []) in
    good_file P names.ops.now OPS_MAX ops_in (λ ops_text u.
    Loads names.prog.now PROG_MAX prog_in (λ prog_text program.
    Then (Take ∷ []) (Makes (IsMade names.width ops_text prog_text program)
    (λ made. made_plan names made)))) holds good.0
    (good_file P names.prog.now PROG_MAX prog_in (λ prog_text program.
    Then (Take ∷ []) (Makes (IsMade names.width good.0.text prog_text program)
    (λ made. made_plan names made))) holds good.1
    (((λ e. cc), tt), λ made is. (((λ e. cc), tt), (((λ e. cc), tt), refl))))

-- a program of a version 2 file is read again
program_read : (ms : Program) → IsProgram ms → prog_in (program_bytes 2 ms) ≡ Ok ms
program_read ms legal = ap program_or_refusal (read 2 ms legal (inr refl))

file_is : (a b : List ℕ) → Some a ≡ Some b → a ≡ b
file_is a b e = cc

pub optimised : (names : OptimiseNames) → HasNumbers (Optimise names) → (old new : World)
    (status : ℕ) → IsDelivered (optimise_plan names) old new status
    → Known (λ before after. Optimised names before after old new) old.files.holds new.files.holds
optimised names numbers old new status d =
    known_delivered (optimise_plan names) old new status
    (λ before after. Optimised names before after old new) d
    (λ before after said sent (
      ops_text,
      ops_there,
      u,
      ops_is,
      (prog_text, prog_there, program, prog_is, (made, is, (same, all, answers, left))),
    ).
    let own = read_from (before names.prog.now) prog_text program prog_there prog_is is.file in
    let ops = map text_op made.ops in
    let room = room_for prog_text in
    let good = all_good names.width room ops program made.lines made.program made.outcomes is.are
    in
    record {
      ops = made.ops;
      program = program;
      version = own.version;
      lines = made.lines;
      made = made.program;
      outcomes = made.outcomes;
      ops_are = spells_at (before names.ops.now) ops_text made.ops ops_there is.ops;
      legal = own.legal;
      has = own.has;
      prog_is = own.is;
      made_legal = is.legal;
      is = ap (λ (x : Files). x names.new.now) same
          ∙ at_own names.new.now (program_bytes 2 made.program) before;
      within = is.within;
      accepted = program_read made.program is.legal;
      are = subst (λ (file : List ℕ). AreOutcomes names.width (room_for file) ops program made.lines
          made.program made.outcomes) (file_is prog_text (program_bytes own.version program)
          (sym prog_there ∙ own.is)) is.are;
      good = good;
      right = all_right names.width room ops program made.lines made.program made.outcomes is.are;
      implements = still_implement names.width ops program made.program numbers.0 numbers.1
          own.legal good;
      others = λ other apart. ap (λ (x : Files). x other) same
          ∙ at_other other names.new.now (program_bytes 2 made.program) before
          (bytes_differ other names.new.now apart);
      sent = subst (λ (bytes : List ℕ). Known (λ x y. y ≡ x ++ bytes) old.sink.sent new.sink.sent)
          (all ∙ append-nil (report names.width made.program made.outcomes)) sent;
    })

pub optimise_proved : (names : OptimiseNames) → Proved (Optimise names)
optimise_proved names = record {
  gives = optimise_gives names;
  not_one = λ can. cc;
  good = λ holds are good. optimise_good names holds good;
  spares = spares_by None (optimise_plan names) (optimise_takes names);
  tells = zero_tells;
  promised = λ old new status d. optimised names d.numbers old new status d.delivers;
}
