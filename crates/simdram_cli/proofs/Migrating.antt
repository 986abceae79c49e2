-- The facts of `migrate`: its statuses, its files, its memory, and what one that is done leaves.
use Rattle.simdram_cli.proofs.Common.{◌≡◌, ℕ, List, [], ◌∷◌, ◌++◌, Option, Some, None, refl, sym}
use Rattle.simdram_cli.proofs.Common.{◌∙◌, ap, subst, append-nil, arith, drop, inr, take, Result}
use Rattle.simdram_cli.proofs.Common.{Ok, Files, Known, IsProgram, HasVersion, program_bytes}
use Rattle.simdram_cli.proofs.Common.{ProgFault, IsProgramFile, read, Program, World, Put, Refusal}
use Rattle.simdram_cli.proofs.Common.{Store, Answers, Makes, Then, file_in, IsDelivered}
use Rattle.simdram_cli.proofs.Common.{known_delivered, at_other, at_own, bytes_differ, GoodFor}
use Rattle.simdram_cli.proofs.Common.{NotTen, TakesFirst}
use Rattle.std.proofs.lemmas.Grind.{common_steps}
use Rattle.std.specs.Prelude.{length}
use Rattle.simdram_cli.specs.declared.words.Command.TheVariants.{Migrate}
use Rattle.simdram_cli.specs.declared.words.MigrateNames.{MigrateNames}
use Rattle.simdram_cli.specs.declared.words.TheConstants.{PROG_MAX}
use Rattle.simdram_cli.specs.GoodFiles.{IsProg}
use Rattle.simdram_cli.specs.Migrate.{Migrated, migrate_plan, migrated_line}
use Rattle.simdram_cli.specs.Programs.{prog_in, program_or_refusal}
use Rattle.simdram_cli.proofs.JobPlans.{good_file, prog_refuses}
use Rattle.simdram_cli.proofs.Planned.{GivesOwn, IsFailing, IsOneOf, Proved, spares_by, zero_tells}

-- the program of a program file
pub prog_is : (text : List ℕ) → (f : IsProgramFile text) → prog_in text ≡ Ok f.programs
prog_is text f = ap prog_in f.spelled ∙ ap program_or_refusal (read f.version f.programs f.is f.has)

pub entries_are : (r : Result ℕ ProgFault) (k n : ℕ) → r ≡ Ok k → r ≡ Ok n → k ≡ n
entries_are r k n e f = cc

-- a vector that was written whole
pub written : (len : ℕ) (new old : List ℕ) → length new ≡ len
    → take len (new ++ drop (length new) old) ≡ new
written len new old h = grind (arith, common_steps)

pub migrate_gives : (names : MigrateNames) → GivesOwn (Migrate names) (migrate_plan names)
migrate_gives names = (
  refl,
  refl,
  refl,
  prog_refuses (IsFailing (Migrate names)) refl,
  λ text program u. ((refl, tt), ((refl, tt), refl)),
)

pub migrate_takes : (names : MigrateNames) → TakesFirst None (migrate_plan names)
migrate_takes names = (
  prog_refuses NotTen (λ e. cc),
  λ text program u.
      inr (tt, (((λ e. cc), tt), (λ e. cc))),
)

pub migrate_good : (names : MigrateNames) (holds : Option Files)
    → IsProg (file_in holds names.old.now)
    → GoodFor (IsOneOf (10 ∷ 0 ∷ [])) (migrate_plan names) holds
migrate_good names holds good =
    good_file (IsOneOf (10 ∷ 0 ∷ [])) names.old.now PROG_MAX prog_in (λ text program.
    Makes {A = Unit {0}} (λ u. IsProgramFile text) (λ u.
    Then (Store names.new.now (program_bytes 2 program) ∷ [])
    (Then (Put (migrated_line program) ∷ []) (Answers 0 (λ chip. Unit {0}))))) holds good
    (λ u file. (((λ e. cc), tt), (((λ e. cc), tt), refl)))

same_ok : (read : Result Program Refusal) (a b : Program) → read ≡ Ok a → read ≡ Ok b → a ≡ b
same_ok read a b e f = cc

-- a program that was read is legal, and its file spells it in some version
pub record ReadFrom (file : Option (List ℕ)) (program : Program) : Type 0 where
  pub version : ℕ
  pub legal : IsProgram program
  pub has : HasVersion version program
  pub is : file ≡ Some (program_bytes version program)

pub read_from : (file : Option (List ℕ)) (text : List ℕ) (program : Program) → file ≡ Some text
    → prog_in text ≡ Ok program → IsProgramFile text → ReadFrom file program
read_from file text program there is f =
    let own = same_ok (prog_in text) program f.programs is (prog_is text f) in
    record {
      version = f.version;
      legal = subst IsProgram (sym own) f.is;
      has = subst (HasVersion f.version) (sym own) f.has;
      is = there ∙ ap (λ x. Some x) (f.spelled ∙ ap (program_bytes f.version) (sym own));
    }

pub migrated : (names : MigrateNames) (old new : World) (status : ℕ)
    → IsDelivered (migrate_plan names) old new status
    → Known (λ before after. Migrated names before after old new) old.files.holds new.files.holds
migrated names old new status d =
    known_delivered (migrate_plan names) old new status
    (λ before after. Migrated names before after old new) d
    (λ before after said sent (
      text,
      there,
      program,
      is,
      (u, file, (same, all, answers, left)),
    ).
    let own = read_from (before names.old.now) text program there is file in
    record {
      program = program;
      version = own.version;
      legal = own.legal;
      has = own.has;
      was = own.is;
      is = ap (λ (x : Files). x names.new.now) same
          ∙ at_own names.new.now (program_bytes 2 program) before;
      others = λ other apart. ap (λ (x : Files). x other) same
          ∙ at_other other names.new.now (program_bytes 2 program) before
          (bytes_differ other names.new.now apart);
      sent = subst (λ (bytes : List ℕ). Known (λ x y. y ≡ x ++ bytes) old.sink.sent new.sink.sent)
          (all ∙ append-nil (migrated_line program)) sent;
    })

pub migrate_proved : (names : MigrateNames) → Proved (Migrate names)
migrate_proved names = record {
  gives = migrate_gives names;
  not_one = λ can. cc;
  good = λ holds are good. migrate_good names holds good;
  spares = spares_by None (migrate_plan names) (migrate_takes names);
  tells = zero_tells;
  promised = λ old new status d. migrated names old new status d.delivers;
}
