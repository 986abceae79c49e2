-- What a `verify` found right, and what an execution gives.
use Rattle.std.specs.Prelude.{◌≡◌, ◌⊎◌, ◌==◌, ◌++◌, ℕ, true, List, Some, map}
use Rattle.prog_text.specs.Widths.{AreWidths}
use Rattle.std.specs.List.{AllByRecursion, list_any}
use Rattle.host_edge.specs.Views.{Files, Known}
use Rattle.object_alloc.specs.Spelling.{image_bytes}
use Rattle.uprog_code.specs.Texts.{TextOp, text_op}
use Rattle.bbop_isa.specs.Forms.{Instruction}
use Rattle.bbop_isa.specs.Forms.{Init, Bbop, Load, Fill, Print, Free, Order}
use Rattle.machine_model.specs.Agrees.{HoldsNumbers}
use Rattle.machine_model.specs.Opened.{Image, objects_held, rows_in_banks}
use Rattle.machine_model.specs.Report.{Said, report, said_in_words}
use Rattle.machine_model.specs.Routines.{Program, meaning_in, routines_in, text_op_named}
use Rattle.machine_model.specs.Script.{words_at_end}
use Rattle.machine_model.specs.Steps.{Held, table_of}
use Rattle.verify_job.specs.Findings.{AreAlike}
use Rattle.cli_model.specs.World.{World}
use Rattle.simdram_cli.specs.declared.words.ExecNames.{ExecNames}
use Rattle.simdram_cli.specs.declared.words.VerifyNames.{VerifyNames}
use Rattle.simdram_cli.specs.Exec.{Executed}
use Rattle.simdram_cli.specs.Job.{replies_by}
use Rattle.simdram_cli.specs.Verify.{Verified}

-- an op of the text has this name
abbrev pub HasOp : List TextOp → List ℕ → Type 0
HasOp t op = (o : TextOp) × (text_op_named t op ≡ Some o)

-- a bbop has one of these widths, and names an op of the text
abbrev pub IsAtWidths : List ℕ → List TextOp → Instruction → Type 0
IsAtWidths widths t (Bbop op dst srcs count n) =
    (list_any (λ m. m == n) widths ≡ true) × HasOp t op
IsAtWidths widths t (Init name count n) = Unit {0}
IsAtWidths widths t (Load place values) = Unit {0}
IsAtWidths widths t (Fill place value) = Unit {0}
IsAtWidths widths t (Print place) = Unit {0}
IsAtWidths widths t (Free name) = Unit {0}
IsAtWidths widths t (Order o) = Unit {0}

-- the word machine's state after a script on an image, by the meanings of a text and the heads of a
-- program
abbrev pub state_by : List TextOp → Program → List Instruction → Image → List Held
state_by t program script i =
    words_at_end i.geometry (routines_in program) (meaning_in t) (objects_held i) script

-- what it says of the script
abbrev pub said_by_words : List TextOp → Program → List Instruction → Image → List Said
said_by_words t program script i =
    said_in_words i.geometry (routines_in program) (meaning_in t) (objects_held i) script

-- OUT of an execution is the spelling of the word machine's table with the chip's rows, in which
-- each object has exactly its numbers; and the report is what the word machine says
pub record GivesWords (t : List TextOp) {names : ExecNames} {before after : Files} {a b : World}
    {status : ℕ} (e : Executed names before after a b status) : Type 0 where
  pub file : after names.out.now ≡ Some (image_bytes e.image.geometry
      (table_of (state_by t e.program e.script e.image)) (rows_in_banks b.chip.banks))
  pub numbers : HoldsNumbers e.image.geometry b.chip.banks
      (state_by t e.program e.script e.image)
  pub sent : Known (λ x y. y ≡ x ++ report (said_by_words t e.program e.script e.image)
      b.chip.counters (replies_by e.program e.script e.image)) a.sink.sent b.sink.sent

-- Where a `verify` ended with 0, and each bbop of a script has one of its widths and names an op of
-- its OPS, an execution of the same bytes of PROG gives what the word machine of OPS gives
abbrev pub RightIsExecuted : Type 0
RightIsExecuted =
    (verified : VerifyNames) (names : ExecNames) (before after found later : Files)
    (a b c d : World) (status : ℕ) (v : Verified verified before after a b 0)
    (e : Executed names found later c d status)
    → found names.prog.now ≡ before verified.prog.now
    → AllByRecursion (IsAtWidths verified.widths.items (map text_op v.ops)) e.script
    → GivesWords (map text_op v.ops) e

-- two verifications look at the ops of one text and at one program; what they find of each op at
-- each width is alike; and if one ends with 0, the other ends with 0 or 20
pub record SameFindings {names : VerifyNames} {before after later : Files} {a b c d : World}
    {status other : ℕ} (v : Verified names before after a b status)
    (w : Verified names before later c d other) : Type 0 where
  pub ops : v.ops ≡ w.ops
  pub program : v.program ≡ w.program
  pub alike : AreAlike v.findings w.findings
  pub files : after ≡ later
  pub answer : status ≡ 0 → (other ≡ 0) ⊎ (other ≡ 20)

-- OPS and PROG decide what a verification finds, but for which case of an entry that is wrong is
-- told, and whether one that is right or wrong is told as unknown
abbrev pub OneVerified : Type 0
OneVerified =
    (names : VerifyNames) (before after later : Files) (a b c d : World) (status other : ℕ)
    (v : Verified names before after a b status) (w : Verified names before later c d other)
    → AreWidths names.widths.items → SameFindings v w
