-- How a job and a run go and end.
use Rattle.std.specs.Prelude.{◌≡◌, map, ℕ, List, [], ◌∷◌, None, Ok}
use Rattle.dram_model.specs.View.{ChipView}
use Rattle.host_edge.specs.Views.{FolderView, SinkView}
use Rattle.uprog_bin.specs.Spelling.{program_bytes}
use Rattle.uprog_gen.specs.Totals.{AreExact}
use Rattle.machine_model.specs.Routines.{Program}
use Rattle.op_text.specs.Language.{Operation}
use Rattle.op_text.specs.OpsOf.{IsOpsOf}
use Rattle.uprog_code.specs.Programs.{IsProgram}
use Rattle.uprog_code.specs.Texts.{ImplementsAll, text_op}
use Rattle.cli_model.specs.World.{world}
use Rattle.cli_model.specs.Steps.{Step, Load, Take, Store, Reason, End, Done, Stopped}
use Rattle.cli_model.specs.Steps.{Goes, loading}
use Rattle.simdram_cli.specs.declared.words.TheConstants.{OPS_MAX}
use Rattle.simdram_cli.specs.Accepted.{IsTaken}
use Rattle.simdram_cli.specs.Inputs.{ops_in}
use Rattle.cli_model.specs.Reads.{IsText}

-- the program is one that a file can hold, does the ops that the text has, and takes for each
-- exactly the row commands of its statements; and each command that loads a program file takes its
-- file
pub record IsCompiled (text : List ℕ) (program : Program) : Type 0 where
  pub ops : List Operation
  pub is : IsOpsOf text ops
  pub legal : IsProgram program
  pub implements : ImplementsAll program (map text_op ops)
  pub exact : AreExact program ops
  pub taken : IsTaken (program_bytes 2 program) program

-- memory was taken and PROG stored, as far as nothing failed
abbrev pub GoesToStore : List ℕ → Program → End → FolderView → FolderView → Type 0
GoesToStore name program end old new =
    (sink : SinkView) (chip : ChipView) → Goes (Take ∷ Store name (program_bytes 2 program) ∷ [])
    end (world old sink chip) (world new sink chip)

-- it stopped where memory was to be taken or PROG stored, and why
abbrev pub StopsAtStore : List ℕ → Reason → FolderView → FolderView → Type 0
StopsAtStore name reason old new =
    (program : Program) × GoesToStore name program (Stopped reason) old new

-- the first steps, to the store of PROG
abbrev pub first_steps : (ops prog : List ℕ) → Program → List ℕ → List Step
first_steps ops prog program text = loading ops OPS_MAX text (ops_in text)
    (λ t. Take ∷ Store prog (program_bytes 2 program) ∷ [])

-- OPS was read and compiled, and PROG has the spelling of the program
pub record ProgramTaken (ops prog : List ℕ) (program : Program) (old new : FolderView) : Type 0
  where
    pub text : List ℕ
    pub accepted : ops_in text ≡ Ok tt
    pub compiled : IsCompiled text program
    pub goes : (sink : SinkView) (chip : ChipView) → Goes (Load ops OPS_MAX text None
        ∷ Take ∷ Store prog (program_bytes 2 program) ∷ []) Done (world old sink chip)
        (world new sink chip)

-- it stopped before PROG was stored
pub record ProgramStopped (ops prog : List ℕ) (reason : Reason) (old new : FolderView) : Type 0
  where
    pub program : Program
    pub text : List ℕ
    pub is_text : IsText old.holds ops text
    pub goes : (sink : SinkView) (chip : ChipView)
        → Goes (first_steps ops prog program text) (Stopped reason) (world old sink chip)
        (world new sink chip)
