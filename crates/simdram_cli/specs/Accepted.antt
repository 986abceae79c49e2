-- A program file that each command takes that loads one.
use Rattle.std.specs.Prelude.{◌≡◌, ℕ, ◌+◌, ◌*◌, ◌<◌, ◌≤◌, List, [], ◌∷◌, length, Ok}
use Rattle.std.specs.List.{AllByRecursion}
use Rattle.bit_rows.specs.declared.TheConstants.{WIDTH_MAX}
use Rattle.uprog_code.specs.Shape.{Microprogram}
use Rattle.uprog_code.specs.Machine.{HasEnded, trace}
use Rattle.machine_model.specs.Routines.{Program}
use Rattle.simdram_cli.specs.declared.words.TheConstants.{PROG_MAX}
use Rattle.simdram_cli.specs.Programs.{prog_in}

-- how many instructions all entries have
abbrev pub instructions : Program → ℕ
instructions [] = 0
instructions (entry ∷ entries) = length entry.code + instructions entries

-- no walk of the entry is stuck, at any width
abbrev pub IsNeverStuck : Microprogram → Type 0
IsNeverStuck entry =
    (n : ℕ) → 0 < n → n ≤ WIDTH_MAX → HasEnded (trace entry.shape entry.code n)

-- The file is not too long and is accepted as this program, at most 4,097 instructions for each of
-- 32 entries, none of which is ever stuck
pub record IsTaken (bytes : List ℕ) (program : Program) : Type 0 where
  pub few : instructions program ≤ 32 * 4097
  pub within : length bytes ≤ PROG_MAX
  pub accepted : prog_in bytes ≡ Ok program
  pub walks : AllByRecursion IsNeverStuck program
