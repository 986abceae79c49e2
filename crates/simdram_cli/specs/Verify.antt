-- The command `verify`.
use Rattle.std.specs.Prelude.{◌≡◌, ◌⊎◌, map, ℕ, List, [], ◌∷◌, ◌++◌, Some}
use Rattle.host_edge.specs.Views.{Files, Known}
use Rattle.op_text.specs.Language.{Operation}
use Rattle.op_text.specs.OpsOf.{IsOpsOf}
use Rattle.uprog_code.specs.Programs.{IsProgram}
use Rattle.uprog_code.specs.Texts.{text_op}
use Rattle.uprog_bin.specs.Spelling.{HasVersion, program_bytes}
use Rattle.uprog_bin.specs.Opened.{IsProgramFile}
use Rattle.machine_model.specs.Routines.{Program}
use Rattle.verify_job.specs.declared.finding.OpFindings.{OpFindings}
use Rattle.verify_job.specs.Findings.{AreFindings, HaveRight, status_of}
use Rattle.verify_job.specs.Report.{report}
use Rattle.cli_model.specs.World.{World}
use Rattle.cli_model.specs.Steps.{Put, Take}
use Rattle.cli_model.specs.Plan.{Answers, Loads, Makes, Plan, Then}
use Rattle.simdram_cli.specs.declared.words.TheConstants.{OPS_MAX, PROG_MAX}
use Rattle.simdram_cli.specs.declared.words.VerifyNames.{VerifyNames}
use Rattle.simdram_cli.specs.Headline.{Spells}
use Rattle.simdram_cli.specs.Inputs.{ops_in}
use Rattle.simdram_cli.specs.Programs.{prog_in}

-- the ops of a text, and what is found of a program's entries of their names
pub record Found : Type 0 where
  pub ops : List Operation
  pub findings : List OpFindings

-- these are the ops of OPS, and the findings are true of the program of PROG at these widths
pub record IsFound (widths ops_text prog_text : List ℕ) (program : Program) (found : Found)
    : Type 0 where
  pub ops : IsOpsOf ops_text found.ops
  pub file : IsProgramFile prog_text
  pub are : AreFindings widths program (map text_op found.ops) found.findings

-- the report of what is found is sent, and its status answered
abbrev pub found_plan : List ℕ → Found → Plan
found_plan widths found = Then (Put (report widths found.ops found.findings) ∷ [])
    (Answers (status_of found.findings) (λ chip. Unit {0}))

-- OPS and PROG are loaded, and what is found of PROG's entries is told
abbrev pub verify_plan : VerifyNames → Plan
verify_plan names = Loads names.ops.now OPS_MAX ops_in (λ ops_text u.
    Loads names.prog.now PROG_MAX prog_in (λ prog_text program.
    Then (Take ∷ []) (Makes (IsFound names.widths.items ops_text prog_text program)
    (λ found. found_plan names.widths.items found))))

-- the statuses under which the report was sent
abbrev pub IsVerifyDone : ℕ → Type 0
IsVerifyDone status = (status ≡ 0) ⊎ ((status ≡ 19) ⊎ (status ≡ 20))

-- For each op of OPS, in order, and each width, what is found of the entry of its name is true of
-- the program that PROG has in some version, and the report of it was sent. The status is that of
-- the findings: at 0 each op has an entry that does it at each width. All files are as at entry
pub record Verified (names : VerifyNames) (before after : Files) (old new : World) (status : ℕ)
    : Type 0 where
  pub ops : List Operation
  pub program : Program
  pub version : ℕ
  pub findings : List OpFindings
  pub ops_are : Spells (before names.ops.now) ops
  pub legal : IsProgram program
  pub has : HasVersion version program
  pub prog_is : before names.prog.now ≡ Some (program_bytes version program)
  pub are : AreFindings names.widths.items program (map text_op ops) findings
  pub answers : status ≡ status_of findings
  pub right : status ≡ 0 → HaveRight names.widths.items program (map text_op ops)
  pub files : after ≡ before
  pub sent : Known (λ x y. y ≡ x ++ report names.widths.items ops findings) old.sink.sent
      new.sink.sent

-- the text and the status are those of true findings
pub record IsReport (widths : List ℕ) (program : Program) (ops : List Operation)
    (text : List ℕ) (status : ℕ) : Type 0 where
  pub findings : List OpFindings
  pub are : AreFindings widths program (map text_op ops) findings
  pub text_is : text ≡ report widths ops findings
  pub status_is : status ≡ status_of findings
