-- When a file that a command loads is good.
use Rattle.std.specs.Prelude.{◌≡◌, ◌≤◌, ℕ, List, length, Option, Some, Result, Ok}
use Rattle.dram_model.specs.declared.geometry.Geometry.{Geometry}
use Rattle.cli_model.specs.Steps.{Refusal}
use Rattle.simdram_cli.specs.declared.words.TheConstants.{FLIPS_MAX, IMAGE_MAX, OPS_MAX, PROG_MAX}
use Rattle.simdram_cli.specs.declared.words.TheConstants.{QUERY_MAX, SCRIPT_MAX, TRACE_MAX}
use Rattle.simdram_cli.specs.declared.account.Account.{Account}
use Rattle.simdram_cli.specs.declared.account.Account.TheVariants.{Canonical, OfProgram}
use Rattle.simdram_cli.specs.Flips.{flips_in}
use Rattle.simdram_cli.specs.Inputs.{ops_in, script_in, image_of}
use Rattle.simdram_cli.specs.Programs.{prog_in}
use Rattle.simdram_cli.specs.Queries.{query_in}
use Rattle.simdram_cli.specs.Traces.{trace_in}

-- the file is there, is not longer than its limit, and its text is accepted
pub record IsGood {A : Type 0} (read : List ℕ → Result A Refusal) (limit : ℕ)
    (file : Option (List ℕ)) : Type 0 where
  pub text : List ℕ
  pub there : file ≡ Some text
  pub within : length text ≤ limit
  pub value : A
  pub accepted : read text ≡ Ok value

-- the file is there, and its text is accepted as ops
abbrev pub IsOps : Option (List ℕ) → Type 0
IsOps file = IsGood ops_in OPS_MAX file

-- the file is there, and is accepted as a program file
abbrev pub IsProg : Option (List ℕ) → Type 0
IsProg file = IsGood prog_in PROG_MAX file

-- the file is there, and its text is accepted as a script
abbrev pub IsScript : Option (List ℕ) → Type 0
IsScript file = IsGood script_in SCRIPT_MAX file

-- the file is there, and is accepted as an image
abbrev pub IsImageFile : Option (List ℕ) → Type 0
IsImageFile file = IsGood image_of IMAGE_MAX file

-- the file is there, and its text is accepted as a query
abbrev pub IsQueryFile : Option (List ℕ) → Type 0
IsQueryFile file = IsGood query_in QUERY_MAX file

-- the file is there, and is accepted as a trace
abbrev pub IsTraceFile : Option (List ℕ) → Type 0
IsTraceFile file = IsGood trace_in TRACE_MAX file

-- its flips are those of such an image, among so many instructions
abbrev pub IsFlipsFile : Geometry → ℕ → Option (List ℕ) → Type 0
IsFlipsFile g instrs file = IsGood (flips_in g instrs) FLIPS_MAX file

-- the file of an account is good
abbrev pub IsAccountFile : Account → Option (List ℕ) → Type 0
IsAccountFile Canonical file = IsOps file
IsAccountFile (OfProgram account) file = IsProg file
