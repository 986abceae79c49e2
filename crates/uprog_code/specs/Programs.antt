-- Which programs a file can hold.
use Rattle.std.specs.Prelude.{◌≡◌, ◌≢◌, ◌<◌, ◌≤◌, ◌^◌, true, List, length}
use Rattle.std.specs.List.{AllByRecursion, AllPairs}
use Rattle.text_lex.specs.Spelled.{fits_name}
use Rattle.uprog_code.specs.Shape.{Microprogram}
use Rattle.uprog_code.specs.Legal.{IsLegalCode}

-- a name, 1 to 4 sources, scratch that a byte counts, and legal code
pub record IsEntry (m : Microprogram) : Type 0 where
  pub name : fits_name m.name ≡ true
  pub some : 0 < length m.shape.sources
  pub few : length m.shape.sources ≤ 4
  pub bits : m.shape.bits < 2 ^ 8
  pub words : m.shape.words < 2 ^ 8
  pub code : IsLegalCode m.shape m.code

-- at most 32 entries, of differing names
pub record IsProgram (ms : List Microprogram) : Type 0 where
  pub few : length ms ≤ 32
  pub entries : AllByRecursion IsEntry ms
  pub names : AllPairs (λ m n. m.name ≢ n.name) ms
