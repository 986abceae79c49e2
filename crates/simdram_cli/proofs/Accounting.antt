-- The facts of an account: its statuses, files, memory, and what one that is done has sent.
use Rattle.simdram_cli.proofs.Common.{◌≡◌, ℕ, List, [], ◌∷◌, ◌++◌, Option, append-nil, None, refl}
use Rattle.simdram_cli.proofs.Common.{sym, ◌∙◌, subst, Result, Err, Bor, ChipView, Files}
use Rattle.simdram_cli.proofs.Common.{FolderView, SinkView, Known, Operation, IsOpsOf}
use Rattle.simdram_cli.proofs.Common.{canonical_text, IsProgram, HasVersion, program_bytes}
use Rattle.simdram_cli.proofs.Common.{IsProgramFile, World, world, Reason, Refusal, Take, Runs}
use Rattle.simdram_cli.proofs.Common.{GoodFor, NotTen, TakesFirst, file_in, Makes, Plan, Then}
use Rattle.simdram_cli.proofs.Common.{IsDelivered, known_delivered}
use Rattle.uprog_bin.specs.Opened.{File}
use Rattle.simdram_cli.specs.declared.account.Account.{Account}
use Rattle.simdram_cli.specs.declared.account.Account.TheVariants.{Canonical, OfProgram}
use Rattle.simdram_cli.specs.declared.account.ProgramAccount.{ProgramAccount}
use Rattle.simdram_cli.specs.declared.words.AccountNames.{AccountNames}
use Rattle.simdram_cli.specs.declared.words.Command.TheVariants.{Account as AccountOf}
use Rattle.simdram_cli.specs.declared.words.TheConstants.{OPS_MAX, PROG_MAX}
use Rattle.simdram_cli.specs.Accounts.{Accounted, ProgramTold, OpsTold, account_plan, program_plan}
use Rattle.simdram_cli.specs.Accounts.{StopsBefore, program_text, ops_plan, text_plan, told_plan}
use Rattle.simdram_cli.specs.Commands.{CanAnswer}
use Rattle.simdram_cli.specs.GoodFiles.{IsAccountFile, IsGood}
use Rattle.simdram_cli.specs.Inputs.{ops_in}
use Rattle.simdram_cli.specs.Programs.{prog_in}
use Rattle.simdram_cli.proofs.JobPlans.{good_file, ops_refuses, prog_refuses}
use Rattle.simdram_cli.proofs.Migrating.{read_from}
use Rattle.simdram_cli.proofs.OpsPlans.{spells_at}
use Rattle.simdram_cli.proofs.Planned.{GivesOwn, IsFailing, IsOneOf, Proved, spares_by, zero_tells}

-- the file of a program that was opened
abbrev pub opened_file : (file : File) (text : List ℕ) → file.bytes ≡ text
    → IsProgram file.programs × HasVersion file.version file.programs
    × (file.bytes ≡ program_bytes file.version file.programs) → IsProgramFile text
opened_file file text same spelled = record {
  version = file.version;
  programs = file.programs;
  is = spelled.0;
  has = spelled.1;
  spelled = sym same ∙ spelled.2;
}

own_gives : (file : Bor (List ℕ)) (account : Account)
    → GivesOwn (AccountOf (record { file = file; account = account })) (account_plan file.now account)
own_gives file Canonical = (
  refl,
  refl,
  refl,
  ops_refuses (IsFailing (AccountOf (record { file = file; account = Canonical }))) refl,
  λ text u ops. ((refl, tt), ((refl, tt), refl)),
)
own_gives file (OfProgram account) = (
  refl,
  refl,
  refl,
  prog_refuses (IsFailing (AccountOf (record { file = file; account = OfProgram account }))) refl,
  λ text program u. ((refl, tt), ((refl, tt), refl)),
)

pub account_gives : (names : AccountNames)
    → GivesOwn (AccountOf names) (account_plan names.file.now names.account)
account_gives names = own_gives names.file names.account

own_not_one : (file : Bor (List ℕ)) (account : Account)
    → CanAnswer (AccountOf (record { file = file; account = account })) 1 → ⊥
own_not_one file Canonical can = cc
own_not_one file (OfProgram account) can = cc

pub account_not_one : (names : AccountNames) → CanAnswer (AccountOf names) 1 → ⊥
account_not_one names can = own_not_one names.file names.account can

-- a plan stops before its text is sent
pub stops_before : (plan : Plan) (reason : Reason) (old new : FolderView)
    → ((sink : SinkView) (chip : ChipView)
    → Runs plan (world old sink chip) (world new sink chip) (Err reason))
    → StopsBefore plan reason old new
stops_before plan reason old new stops = stops

pub account_takes : (name : List ℕ) (account : Account)
    → TakesFirst None (account_plan name account)
account_takes name Canonical = (ops_refuses NotTen (λ e. cc), λ text u ops. (tt, (λ e. cc)))
account_takes name (OfProgram account) =
    (prog_refuses NotTen (λ e. cc), λ text program u. (tt, (λ e. cc)))

-- what is told of a file that is good
told_good : {A B : Type 0} (name : List ℕ) (limit : ℕ) (read : List ℕ → Result A Refusal)
    (Is : List ℕ → B → Type 0) (text_of : A → B → List ℕ) (holds : Option Files)
    → IsGood read limit (file_in holds name)
    → GoodFor (IsOneOf (10 ∷ 0 ∷ [])) (told_plan name limit read Is text_of) holds
told_good name limit read Is text_of holds good =
    good_file (IsOneOf (10 ∷ 0 ∷ [])) name limit read (λ text value.
    Makes (Is text) (λ made. Then (Take ∷ []) (text_plan (text_of value made)))) holds good
    (λ made has. (((λ e. cc), tt), (((λ e. cc), tt), refl)))

pub account_good : (name : List ℕ) (account : Account) (holds : Option Files)
    → IsAccountFile account (file_in holds name)
    → GoodFor (IsOneOf (10 ∷ 0 ∷ [])) (account_plan name account) holds
account_good name Canonical holds good =
    told_good name OPS_MAX ops_in IsOpsOf (λ u ops. canonical_text ops) holds good
account_good name (OfProgram account) holds good =
    told_good {B = Unit {0}} name PROG_MAX prog_in (λ text u. IsProgramFile text)
    (λ program u. program_text account program) holds good

ops_told : (text_of : List Operation → List ℕ) (name : List ℕ) (old new : World) (status : ℕ)
    → IsDelivered (ops_plan text_of name) old new status
    → Known (λ before after. OpsTold text_of name before after old new) old.files.holds new.files.holds
ops_told text_of name old new status d =
    known_delivered (ops_plan text_of name) old new status
    (λ before after. OpsTold text_of name before after old new) d
    (λ before after said sent (
      text,
      there,
      u,
      is,
      (ops, has, (same, all, own, left)),
    ). record {
      ops = ops;
      is = spells_at (before name) text ops there has;
      files = same;
      sent = subst (λ (bytes : List ℕ). Known (λ x y. y ≡ x ++ bytes) old.sink.sent new.sink.sent)
          (all ∙ append-nil (text_of ops)) sent;
    })

program_told : (name : List ℕ) (account : ProgramAccount) (old new : World) (status : ℕ)
    → IsDelivered (program_plan name account) old new status
    → Known (λ before after. ProgramTold name account before after old new) old.files.holds
    new.files.holds
program_told name account old new status d =
    known_delivered (program_plan name account) old new status
    (λ before after. ProgramTold name account before after old new) d
    (λ before after said sent (
      text,
      there,
      program,
      is,
      (u, file, (same, all, answers, left)),
    ).
    let own = read_from (before name) text program there is file in
    record {
      program = program;
      version = own.version;
      legal = own.legal;
      has = own.has;
      is = own.is;
      files = same;
      sent = subst (λ (bytes : List ℕ). Known (λ x y. y ≡ x ++ bytes) old.sink.sent new.sink.sent)
          (all ∙ append-nil (program_text account program)) sent;
    })

pub accounted : (name : List ℕ) (account : Account) (old new : World) (status : ℕ)
    → IsDelivered (account_plan name account) old new status
    → Known (λ before after. Accounted name account before after old new) old.files.holds
    new.files.holds
accounted name Canonical old new status d = ops_told canonical_text name old new status d
accounted name (OfProgram account) old new status d = program_told name account old new status d

pub account_proved : (names : AccountNames) → Proved (AccountOf names)
account_proved names = record {
  gives = account_gives names;
  not_one = account_not_one names;
  good = λ holds are good. account_good names.file.now names.account holds good;
  spares = spares_by None (account_plan names.file.now names.account)
      (account_takes names.file.now names.account);
  tells = zero_tells;
  promised = λ old new status d.
      accounted names.file.now names.account old new status d.delivers;
}
