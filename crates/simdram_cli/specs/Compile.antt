-- The command `compile`.
use Rattle.std.specs.Prelude.{◌≡◌, ◌≢◌, ℕ, List, [], ◌∷◌, ◌++◌, Some}
use Rattle.std.specs.Prelude.{length, codes, decimal}
use Rattle.host_edge.specs.Views.{Files, Known}
use Rattle.uprog_bin.specs.Spelling.{program_bytes}
use Rattle.machine_model.specs.Routines.{Program}
use Rattle.cli_model.specs.World.{World}
use Rattle.cli_model.specs.Steps.{Put}
use Rattle.cli_model.specs.Plan.{Answers, Plan, Then}
use Rattle.simdram_cli.specs.Plans.{compiled_plan}
use Rattle.simdram_cli.specs.Ends.{IsCompiled}
use Rattle.simdram_cli.specs.declared.words.CompileNames.{CompileNames}

-- how many entries the program has
abbrev pub compiled_line : Program → List ℕ
compiled_line program = codes "compiled " ++ decimal (length program) ++ codes "\n"

-- OPS is compiled and PROG stored, and how many entries it has is sent
abbrev pub compile_plan : CompileNames → Plan
compile_plan names = compiled_plan names.ops.now names.prog.now (λ program.
    Then (Put (compiled_line program) ∷ []) (Answers 0 (λ chip. Unit {0})))

-- PROG is the version 2 file of a program that a file can hold and that implements the ops of OPS.
-- Each entry takes exactly the row commands of its op's statements at each width, and each command
-- that loads a program file takes PROG (`IsCompiled`). All other files are as at entry, and how
-- many entries it has was sent
pub record Compiled (names : CompileNames) (before after : Files) (old new : World) : Type 0 where
  pub text : List ℕ
  pub read : before names.ops.now ≡ Some text
  pub program : Program
  pub compiled : IsCompiled text program
  pub is : after names.prog.now ≡ Some (program_bytes 2 program)
  pub others : (other : List ℕ) → other ≢ names.prog.now → after other ≡ before other
  pub sent : Known (λ x y. y ≡ x ++ compiled_line program) old.sink.sent new.sink.sent
