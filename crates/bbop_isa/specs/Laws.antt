-- What the definitions of a script come to, in the words of its subject.
use Rattle.std.specs.Prelude.{◌≡◌, ◌≢◌, ◌↔◌, ℕ, ◌+◌, ◌<◌, ◌≤◌, ◌^◌, true, codes, List, ◌∷◌, ◌++◌}
use Rattle.std.specs.Prelude.{length, map, Option, Some, None, Ok, Err}
use Rattle.std.specs.List.{flat_map, AllByRecursion}
use Rattle.std.specs.Option.{option_to_list}
use Rattle.std.specs.Result.{IsOk}
use Rattle.bbop_isa.specs.declared.instr.ScriptFault.{ScriptFault}
use Rattle.bbop_isa.specs.declared.instr.Part.{Part}
use Rattle.bbop_isa.specs.declared.instr.Place.{Place}
use Rattle.bbop_isa.specs.Lines.{lines_of, AreLines}
use Rattle.bbop_isa.specs.Forms.{Instruction, Init, Bbop, Load, Fill, Print, Free, Order, line_of}
use Rattle.bbop_isa.specs.declared.instr.Order.TheVariants.{Forward, Turns, Seed}
use Rattle.text_lex.specs.Spelled.{fits_name}
use Rattle.bit_rows.specs.declared.TheConstants.{WIDTH_MAX}
use Rattle.bbop_isa.specs.Script.{script_of}

-- Each text is parted into its lines.
abbrev pub LinesAreRight : Type 0
LinesAreRight = (text : List ℕ) → AreLines text (lines_of text)

-- a number of elements and a width
abbrev pub AreSizes : ℕ → ℕ → Type 0
AreSizes count n = (1 ≤ count) × (count < 2 ^ 32) × (1 ≤ n) × (n ≤ WIDTH_MAX)

-- the part has a bit, and lies in the greatest width
abbrev pub IsSomePart : Option Part → Type 0
IsSomePart None = Unit {0}
IsSomePart (Some p) = (1 ≤ p.size) × (p.low + p.size ≤ WIDTH_MAX)

-- an operand has a name, and a part that is some
abbrev pub IsRightPlace : Place → Type 0
IsRightPlace place = (fits_name place.name ≡ true) × IsSomePart place.part

-- Its names and its numbers are right.
abbrev pub IsRight : Instruction → Type 0
IsRight (Init name count n) = (fits_name name ≡ true) × AreSizes count n
IsRight (Bbop op dst srcs count n) = (fits_name op ≡ true)
    × AllByRecursion IsRightPlace (dst ∷ srcs) × (op ≢ codes "trsp_init") × (1 ≤ length srcs)
    × (length srcs ≤ 5) × AreSizes count n
IsRight (Load place values) = IsRightPlace place × (1 ≤ length values)
IsRight (Fill place v) = IsRightPlace place
IsRight (Print place) = IsRightPlace place
IsRight (Free name) = fits_name name ≡ true
IsRight (Order Forward) = Unit {0}
IsRight (Order Turns) = Unit {0}
IsRight (Order (Seed seed)) = seed < 2 ^ 64

-- Every line is right, and these are their instructions in order.
pub record Says (text : List ℕ) (script : List Instruction) : Type 0 where
  pub said : List (Option Instruction)
  pub lines : map line_of (lines_of text) ≡ map Ok said
  pub instructions : script ≡ flat_map option_to_list said

-- This is the first line at fault, counted from 1, and what is wrong with it. The lines before it
-- are right.
pub record FirstFault (text : List ℕ) (fault : ScriptFault) : Type 0 where
  pub before : List (List ℕ)
  pub line : List ℕ
  pub following : List (List ℕ)
  pub parted : lines_of text ≡ before ++ line ∷ following
  pub place : fault.line ≡ length before + 1
  pub wrong : line_of line ≡ Err fault.kind
  pub right : AllByRecursion (λ earlier. IsOk (line_of earlier)) before

-- A script is accepted where each line is right, and else refused at its first line at fault.
pub record ScriptsGoByLines : Type 0 where
  pub accepted : (text : List ℕ) (script : List Instruction) → (script_of text ≡ Ok script)
      ↔ Says text script
  pub refused : (text : List ℕ) (fault : ScriptFault) → (script_of text ≡ Err fault)
      ↔ FirstFault text fault
