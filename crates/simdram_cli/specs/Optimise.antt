-- The command `optimise`.
use Rattle.std.specs.Prelude.{◌≡◌, ◌≢◌, ◌-◌, ◌/◌, ◌≤◌, length, map, ℕ, List, [], ◌∷◌, ◌++◌}
use Rattle.std.specs.Prelude.{Ok, Some}
use Rattle.host_edge.specs.Views.{Files, Known}
use Rattle.op_text.specs.Language.{Operation}
use Rattle.op_text.specs.OpsOf.{IsOpsOf}
use Rattle.uprog_code.specs.declared.registers.Issued.{Issued}
use Rattle.uprog_code.specs.Programs.{IsProgram}
use Rattle.uprog_code.specs.Texts.{ImplementsAll, text_op}
use Rattle.uprog_bin.specs.Spelling.{HasVersion, program_bytes}
use Rattle.uprog_bin.specs.Opened.{IsProgramFile}
use Rattle.machine_model.specs.Routines.{Program}
use Rattle.optimise_job.specs.declared.offer.Outcome.{Outcome}
use Rattle.optimise_job.specs.Outcomes.{AreOutcomes}
use Rattle.optimise_job.specs.Promise.{AreAsGood, AreRightIfKnown}
use Rattle.optimise_job.specs.Report.{report}
use Rattle.cli_model.specs.World.{World}
use Rattle.cli_model.specs.Steps.{Put, Store, Take}
use Rattle.cli_model.specs.Plan.{Answers, Loads, Makes, Plan, Then}
use Rattle.simdram_cli.specs.declared.words.TheConstants.{OPS_MAX, PROG_MAX}
use Rattle.simdram_cli.specs.declared.words.OptimiseNames.{OptimiseNames}
use Rattle.simdram_cli.specs.Headline.{Spells}
use Rattle.simdram_cli.specs.Inputs.{ops_in}
use Rattle.simdram_cli.specs.Programs.{prog_in}

-- how many instructions a program may have more whose file is this: no command loads a longer file
-- than PROG_MAX, and an instruction takes eight bytes
abbrev pub room_for : List ℕ → ℕ
room_for file = (PROG_MAX - length file) / 8

-- what was made of a program: the ops of a text, the line that was offered for each entry, the new
-- program, and what became of each entry
pub record Made : Type 0 where
  pub ops : List Operation
  pub lines : List (List Issued)
  pub program : Program
  pub outcomes : List Outcome

-- these are the ops of OPS, and what was made is true of the program of PROG at this width
pub record IsMade (n : ℕ) (ops_text prog_text : List ℕ) (program : Program) (made : Made)
    : Type 0 where
  pub ops : IsOpsOf ops_text made.ops
  pub file : IsProgramFile prog_text
  pub legal : IsProgram made.program
  pub are : AreOutcomes n (room_for prog_text) (map text_op made.ops) program made.lines
      made.program made.outcomes
  pub within : length (program_bytes 2 made.program) ≤ PROG_MAX

-- the new program is stored as NEW, and what became of each entry is sent
abbrev pub made_plan : OptimiseNames → Made → Plan
made_plan names made = Then (Store names.new.now (program_bytes 2 made.program) ∷ [])
    (Then (Put (report names.width made.program made.outcomes) ∷ []) (Answers 0 (λ chip. Unit {0})))

-- OPS and PROG are loaded, and what is made of PROG's program is stored and told
abbrev pub optimise_plan : OptimiseNames → Plan
optimise_plan names = Loads names.ops.now OPS_MAX ops_in (λ ops_text u.
    Loads names.prog.now PROG_MAX prog_in (λ prog_text program.
    Then (Take ∷ []) (Makes (IsMade names.width ops_text prog_text program)
    (λ made. made_plan names made))))

-- NEW is the version 2 file of a program with the entries of PROG's, in order. At each width but N
-- each issues what PROG's issues; at N it takes no more commands, and does the op of its name in
-- OPS unless it was told that it is not known whether PROG's did. Where PROG's program implements
-- the ops at all widths, so does NEW's. Each command that loads a program file takes NEW, as this
-- program (`within`, `accepted`). All other files are as at entry, and what became of each
-- entry was sent
pub record Optimised (names : OptimiseNames) (before after : Files) (old new : World) : Type 0 where
  pub ops : List Operation
  pub program : Program
  pub version : ℕ
  pub lines : List (List Issued)
  pub made : Program
  pub outcomes : List Outcome
  pub ops_are : Spells (before names.ops.now) ops
  pub legal : IsProgram program
  pub has : HasVersion version program
  pub prog_is : before names.prog.now ≡ Some (program_bytes version program)
  pub made_legal : IsProgram made
  pub is : after names.new.now ≡ Some (program_bytes 2 made)
  pub within : length (program_bytes 2 made) ≤ PROG_MAX
  pub accepted : prog_in (program_bytes 2 made) ≡ Ok made
  pub are : AreOutcomes names.width (room_for (program_bytes version program)) (map text_op ops)
      program lines made outcomes
  pub good : AreAsGood names.width (map text_op ops) program made
  pub right : AreRightIfKnown names.width (map text_op ops) made outcomes
  pub implements : ImplementsAll program (map text_op ops) → ImplementsAll made (map text_op ops)
  pub others : (other : List ℕ) → other ≢ names.new.now → after other ≡ before other
  pub sent : Known (λ x y. y ≡ x ++ report names.width made outcomes) old.sink.sent new.sink.sent

-- the file and the text are those of what was made of a program
pub record IsOptimised (n room : ℕ) (program : Program) (ops : List Operation) (file text : List ℕ)
    : Type 0 where
  pub lines : List (List Issued)
  pub made : Program
  pub outcomes : List Outcome
  pub legal : IsProgram made
  pub are : AreOutcomes n room (map text_op ops) program lines made outcomes
  pub file_is : file ≡ program_bytes 2 made
  pub text_is : text ≡ report n made outcomes
