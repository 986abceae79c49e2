-- The facts of `compile`: its statuses, its files, its memory, and what one that is done leaves.
use Rattle.simdram_cli.proofs.Common.{◌≡◌, ℕ, List, [], ◌∷◌, ◌++◌, Option, None, refl, ◌∙◌, ap}
use Rattle.simdram_cli.proofs.Common.{subst, append-nil, inr, Files, Known, Program, program_bytes}
use Rattle.simdram_cli.proofs.Common.{World, Put, Store, Take, GoodFor, NotTen, TakesFirst, file_in}
use Rattle.simdram_cli.proofs.Common.{Answers, Makes, Then, IsDelivered, known_delivered, at_other}
use Rattle.simdram_cli.proofs.Common.{at_own, bytes_differ}
use Rattle.simdram_cli.specs.declared.words.Command.TheVariants.{Compile}
use Rattle.simdram_cli.specs.declared.words.CompileNames.{CompileNames}
use Rattle.simdram_cli.specs.declared.words.TheConstants.{OPS_MAX}
use Rattle.simdram_cli.specs.Compile.{Compiled, compile_plan, compiled_line}
use Rattle.simdram_cli.specs.GoodFiles.{IsOps}
use Rattle.simdram_cli.specs.Ends.{IsCompiled}
use Rattle.simdram_cli.specs.Inputs.{ops_in}
use Rattle.simdram_cli.proofs.JobPlans.{good_file, ops_refuses}
use Rattle.simdram_cli.proofs.Planned.{GivesOwn, IsFailing, IsOneOf, Proved, spares_by, zero_tells}

pub compile_gives : (names : CompileNames) → GivesOwn (Compile names) (compile_plan names)
compile_gives names = (
  refl,
  refl,
  refl,
  ops_refuses (IsFailing (Compile names)) refl,
  λ text u program. ((refl, (refl, tt)), λ v. ((refl, tt), refl)),
)

pub compile_takes : (names : CompileNames) → TakesFirst None (compile_plan names)
compile_takes names = (
  ops_refuses NotTen (λ e. cc),
  λ text u program.
      inr (tt, λ v. (((λ e. cc), tt), (λ e. cc))),
)

pub compile_good : (names : CompileNames) (holds : Option Files)
    → IsOps (file_in holds names.ops.now)
    → GoodFor (IsOneOf (10 ∷ 0 ∷ [])) (compile_plan names) holds
compile_good names holds good =
    good_file (IsOneOf (10 ∷ 0 ∷ [])) names.ops.now OPS_MAX ops_in (λ text u.
    Makes {A = Program} (λ program. Unit {0}) (λ program.
    Then (Take ∷ Store names.prog.now (program_bytes 2 program) ∷ [])
    (Makes {A = Unit {0}} (λ v. IsCompiled text program) (λ v.
    Then (Put (compiled_line program) ∷ []) (Answers 0 (λ chip. Unit {0})))))) holds good
    (λ program u. (((λ e. cc), ((λ e. cc), tt)), λ v compiled. (((λ e. cc), tt), refl)))

pub compiled : (names : CompileNames) (old new : World) (status : ℕ)
    → IsDelivered (compile_plan names) old new status
    → Known (λ before after. Compiled names before after old new) old.files.holds new.files.holds
compiled names old new status d =
    known_delivered (compile_plan names) old new status
    (λ before after. Compiled names before after old new) d
    (λ before after said sent (
      text,
      there,
      u,
      is,
      (program, v, (w, c, (same, all, answers, left))),
    ). record {
      text = text;
      read = there;
      program = program;
      compiled = c;
      is = ap (λ (x : Files). x names.prog.now) same
          ∙ at_own names.prog.now (program_bytes 2 program) before;
      others = λ other apart. ap (λ (x : Files). x other) same
          ∙ at_other other names.prog.now (program_bytes 2 program) before
          (bytes_differ other names.prog.now apart);
      sent = subst (λ (bytes : List ℕ). Known (λ x y. y ≡ x ++ bytes) old.sink.sent new.sink.sent)
          (all ∙ append-nil (compiled_line program)) sent;
    })

pub compile_proved : (names : CompileNames) → Proved (Compile names)
compile_proved names = record {
  gives = compile_gives names;
  not_one = λ can. cc;
  good = λ holds are good. compile_good names holds good;
  spares = spares_by None (compile_plan names) (compile_takes names);
  tells = zero_tells;
  promised = λ old new status d. compiled names old new status d.delivers;
}
