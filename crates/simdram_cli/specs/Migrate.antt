-- The command `migrate`.
use Rattle.std.specs.Prelude.{◌≡◌, ◌≢◌, ℕ, List, [], ◌∷◌, ◌++◌, Some, length, codes, decimal}
use Rattle.host_edge.specs.Views.{Files, Known}
use Rattle.uprog_code.specs.Programs.{IsProgram}
use Rattle.uprog_bin.specs.Spelling.{HasVersion, program_bytes}
use Rattle.uprog_bin.specs.Opened.{IsProgramFile}
use Rattle.machine_model.specs.Routines.{Program}
use Rattle.cli_model.specs.World.{World}
use Rattle.cli_model.specs.Steps.{Store, Put}
use Rattle.cli_model.specs.Plan.{Answers, Loads, Makes, Plan, Then}
use Rattle.simdram_cli.specs.declared.words.MigrateNames.{MigrateNames}
use Rattle.simdram_cli.specs.declared.words.TheConstants.{PROG_MAX}
use Rattle.simdram_cli.specs.Programs.{prog_in}

-- how many entries went over
abbrev pub migrated_line : Program → List ℕ
migrated_line program = codes "migrated " ++ decimal (length program) ++ codes "\n"

-- OLD is loaded, a program file; the version 2 file of its program is stored as NEW, and how many
-- entries it has is sent
abbrev pub migrate_plan : MigrateNames → Plan
migrate_plan names = Loads names.old.now PROG_MAX prog_in (λ text program.
    Makes {A = Unit {0}} (λ u. IsProgramFile text) (λ u.
    Then (Store names.new.now (program_bytes 2 program) ∷ [])
    (Then (Put (migrated_line program) ∷ []) (Answers 0 (λ chip. Unit {0})))))

-- NEW is the version 2 file of the program that OLD has in some version; all other files are as
-- at entry, and how many entries it has was sent
pub record Migrated (names : MigrateNames) (before after : Files) (old new : World) : Type 0 where
  pub program : Program
  pub version : ℕ
  pub legal : IsProgram program
  pub has : HasVersion version program
  pub was : before names.old.now ≡ Some (program_bytes version program)
  pub is : after names.new.now ≡ Some (program_bytes 2 program)
  pub others : (other : List ℕ) → other ≢ names.new.now → after other ≡ before other
  pub sent : Known (λ x y. y ≡ x ++ migrated_line program) old.sink.sent new.sink.sent
