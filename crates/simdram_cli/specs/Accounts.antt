-- The commands that load one file and send a text about it: `show`, `list` and `cost`.
use Rattle.std.specs.Prelude.{◌≡◌, ℕ, List, [], ◌∷◌, ◌++◌, Option, Some, None}
use Rattle.std.specs.Prelude.{Result, Err, bytes_eq, codes, if◌then◌else◌}
use Rattle.dram_model.specs.View.{ChipView}
use Rattle.host_edge.specs.Views.{Files, FolderView, SinkView, Known}
use Rattle.op_text.specs.Language.{Operation}
use Rattle.op_text.specs.OpsOf.{IsOpsOf}
use Rattle.op_print.specs.Canonical.{canonical_text}
use Rattle.uprog_code.specs.Programs.{IsProgram}
use Rattle.uprog_bin.specs.Spelling.{HasVersion, program_bytes}
use Rattle.uprog_bin.specs.Opened.{IsProgramFile}
use Rattle.prog_text.specs.Listing.{listing}
use Rattle.prog_text.specs.Costs.{costs}
use Rattle.prog_text.specs.Widths.{AreWidths}
use Rattle.machine_model.specs.Routines.{Program}
use Rattle.cli_model.specs.World.{World, world}
use Rattle.cli_model.specs.Steps.{Reason, Refusal, Take, Put}
use Rattle.cli_model.specs.Plan.{Answers, Loads, Makes, Plan, Then}
use Rattle.cli_model.specs.Runs.{Runs}
use Rattle.simdram_cli.specs.declared.account.Account.{Account}
use Rattle.simdram_cli.specs.declared.account.Account.TheVariants.{Canonical, OfProgram}
use Rattle.simdram_cli.specs.declared.account.ProgramAccount.{ProgramAccount}
use Rattle.simdram_cli.specs.declared.account.ProgramAccount.TheVariants.{Listing, Costs}
use Rattle.simdram_cli.specs.declared.words.TheConstants.{OPS_MAX, PROG_MAX}
use Rattle.simdram_cli.specs.Headline.{Spells}
use Rattle.simdram_cli.specs.Inputs.{ops_in}
use Rattle.simdram_cli.specs.Programs.{prog_in}

-- the account that the command's word asks for, where one file is all that follows
abbrev pub account_named : List ℕ → Option Account
account_named verb = if bytes_eq verb (codes "show") then Some Canonical
    else if bytes_eq verb (codes "list") then Some (OfProgram Listing) else None

-- what is sent of a program: its listing, or what its entries cost at widths
abbrev pub program_text : ProgramAccount → Program → List ℕ
program_text Listing program = listing program
program_text (Costs widths) program = costs widths.items program

-- the widths of what costs are asked at are widths
abbrev pub IsAsked : ProgramAccount → Type 0
IsAsked Listing = Unit {0}
IsAsked (Costs widths) = AreWidths widths.items

-- so are those of an account, where it is of costs
abbrev pub HasWidths : Account → Type 0
HasWidths Canonical = Unit {0}
HasWidths (OfProgram account) = IsAsked account

-- the text is sent, and that is all
abbrev pub text_plan : List ℕ → Plan
text_plan text = Then (Put text ∷ []) (Answers 0 (λ chip. Unit {0}))

-- the file is loaded and read, something is made of it, and the text of that is sent
abbrev pub told_plan : {A B : Type 0} → (name : List ℕ) (limit : ℕ)
    (read : List ℕ → Result A Refusal) → (List ℕ → B → Type 0) → (A → B → List ℕ) → Plan
told_plan name limit read Is text_of = Loads name limit read (λ text value.
    Makes (Is text) (λ made. Then (Take ∷ []) (text_plan (text_of value made))))

-- OPS is loaded, and such a text of its ops is sent
abbrev pub ops_plan : (List Operation → List ℕ) → List ℕ → Plan
ops_plan text_of name = told_plan name OPS_MAX ops_in IsOpsOf (λ u ops. text_of ops)

-- PROG is loaded, and the account of its program is sent
abbrev pub program_plan : List ℕ → ProgramAccount → Plan
program_plan name account = told_plan {B = Unit {0}} name PROG_MAX prog_in
    (λ text u. IsProgramFile text) (λ program u. program_text account program)

-- the plan of each account
abbrev pub account_plan : List ℕ → Account → Plan
account_plan name Canonical = ops_plan canonical_text name
account_plan name (OfProgram account) = program_plan name account

-- the status of a file of this kind that is refused
abbrev pub refused_status : Account → ℕ
refused_status Canonical = 4
refused_status (OfProgram account) = 5

-- such a plan came to where this text is sent, whatever follows
abbrev pub ComesTo : Plan → List ℕ → (old new : FolderView) → Type 0
ComesTo plan text old new = (sink : SinkView) (chip : ChipView) (last : World)
    (result : Result ℕ Reason) → Runs (text_plan text) (world new sink chip) last result
    → Runs plan (world old sink chip) last result

-- such a plan stopped before, with the sink and the chip as they were
abbrev pub StopsBefore : Plan → Reason → (old new : FolderView) → Type 0
StopsBefore plan reason old new = (sink : SinkView) (chip : ChipView)
    → Runs plan (world old sink chip) (world new sink chip) (Err reason)

-- What was sent is such a text of the ops of OPS; all files are as at entry
pub record OpsTold (text_of : List Operation → List ℕ) (name : List ℕ) (before after : Files)
    (old new : World) : Type 0 where
  pub ops : List Operation
  pub is : Spells (before name) ops
  pub files : after ≡ before
  pub sent : Known (λ x y. y ≡ x ++ text_of ops) old.sink.sent new.sink.sent

-- What was sent is the account of the program that PROG has in some version; all files are as at
-- entry
pub record ProgramTold (name : List ℕ) (account : ProgramAccount) (before after : Files)
    (old new : World) : Type 0 where
  pub program : Program
  pub version : ℕ
  pub legal : IsProgram program
  pub has : HasVersion version program
  pub is : before name ≡ Some (program_bytes version program)
  pub files : after ≡ before
  pub sent : Known (λ x y. y ≡ x ++ program_text account program) old.sink.sent new.sink.sent

-- what was sent is the account of the file
abbrev pub Accounted : List ℕ → Account → (before after : Files) (old new : World) → Type 0
Accounted name Canonical before after old new =
    OpsTold canonical_text name before after old new
Accounted name (OfProgram account) before after old new =
    ProgramTold name account before after old new
