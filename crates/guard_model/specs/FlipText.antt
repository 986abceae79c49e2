-- The text of the flips.
use Rattle.std.specs.Prelude.{ℕ, ◌+◌, ◌*◌, nat_lt, nat_le, ◌&&◌, ◌≤◌, ◌<◌, Bool, false}
use Rattle.std.specs.Prelude.{if◌then◌else◌, List, [], ◌∷◌, Option, Some, None, Result, Ok, Err}
use Rattle.text_lex.specs.Lexical.{items_of}
use Rattle.dram_model.specs.declared.geometry.Geometry.{Geometry}
use Rattle.bbop_isa.specs.Forms.{number_or_zero}
use Rattle.bbop_isa.specs.Lines.{lines_of}
use Rattle.bbop_isa.specs.Words.{Word, Name, Number, Comma, Open, Colon, Close, Other, words_in}
use Rattle.guard_model.specs.declared.Flip.{Flip}
use Rattle.guard_model.specs.declared.FlipsKind.{FlipsKind}
use Rattle.guard_model.specs.declared.FlipsKind.TheVariants.{Lex, Syntax, Number as BadNumber}
use Rattle.guard_model.specs.declared.FlipsFault.{FlipsFault}

-- a number below the limit
abbrev pub is_below : ℕ → Option ℕ → Bool
is_below limit None = false
is_below limit (Some n) = nat_lt n limit

-- K, where the line before has this K or there is none (0): at least 1 and at most the instructions
-- and one more
abbrev pub is_next : ℕ → ℕ → Option ℕ → Bool
is_next instrs before None = false
is_next instrs before (Some k) = nat_le 1 k && (nat_le before k && nat_le k (instrs + 1))

-- the flip that four numbers say, or that one of them is out of its range
abbrev pub flip_of : Geometry → ℕ → ℕ → Option ℕ → Option ℕ → Option ℕ → Option ℕ → Result
    (Option Flip) FlipsKind
flip_of g instrs before k bank row column =
    if is_next instrs before k && (is_below g.banks bank &&
    (is_below g.rows row && is_below (64 * g.words) column))
    then Ok (Some (record {
      before = number_or_zero k;
      bank = number_or_zero bank;
      row = number_or_zero row;
      column =
          number_or_zero column;
    })) else Err BadNumber

-- the numbers of words that are all numbers
abbrev pub with_number : Option ℕ → Option (List (Option ℕ)) → Option (List (Option ℕ))
with_number number None = None
with_number number (Some numbers) = Some (number ∷ numbers)

-- the numbers of a line of flips, or none where a token is no number
abbrev pub numbers_of : List Word → Option (List (Option ℕ))
numbers_of [] = Some []
numbers_of (Number number ∷ words) = with_number number (numbers_of words)
numbers_of (Name name ∷ words) = None
numbers_of (Comma ∷ words) = None
numbers_of (Open ∷ words) = None
numbers_of (Colon ∷ words) = None
numbers_of (Close ∷ words) = None
numbers_of (Other ∷ words) = None

-- the flip that a line's numbers say; a line without tokens says nothing
abbrev pub flip_by : Geometry → ℕ → ℕ → Option (List (Option ℕ)) → Result (Option Flip) FlipsKind
flip_by g instrs before None = Err Syntax
flip_by g instrs before (Some []) = Ok None
flip_by g instrs before (Some (k ∷ bank ∷ row ∷ column ∷ [])) =
    flip_of g instrs before k bank row column
flip_by g instrs before (Some numbers) = Err Syntax

-- what a line says: a flip, or nothing where it has no token
abbrev pub flip_in : Geometry → ℕ → ℕ → Option (List Word) → Result (Option Flip) FlipsKind
flip_in g instrs before None = Err Lex
flip_in g instrs before (Some words) = flip_by g instrs before (numbers_of words)

-- a flip, and those of the lines after it, or their first fault
abbrev pub with_flip : Flip → Result (List Flip) FlipsFault → Result (List Flip) FlipsFault
with_flip f (Ok flips) = Ok (f ∷ flips)
with_flip f (Err fault) = Err fault

-- what a line says, and then the lines after it, as they are after a flip with some K
abbrev pub and_rest : ℕ → ℕ → Result (Option Flip) FlipsKind → (ℕ → Result (List Flip) FlipsFault)
    → Result (List Flip) FlipsFault
and_rest before number (Err kind) rest = Err (record { line = number; kind = kind })
and_rest before number (Ok None) rest = rest before
and_rest before number (Ok (Some f)) rest = with_flip f (rest f.before)

-- the flips of these lines, the first of which has this number, after a flip with this K
abbrev pub flips_from : Geometry → ℕ → ℕ → List (List ℕ) → ℕ → Result (List Flip) FlipsFault
flips_from g instrs number [] before = Ok []
flips_from g instrs number (line ∷ lines) before = and_rest before number
    (flip_in g instrs before (words_in (items_of line)))
    (λ k. flips_from g instrs (number + 1) lines k)

-- the flips of a text, or its first fault
abbrev pub flips_of : Geometry → ℕ → List ℕ → Result (List Flip) FlipsFault
flips_of g instrs text = flips_from g instrs 1 (lines_of text) 0

-- the flip names a cell of the chip, and comes before an instruction or after the last
pub record IsFlip (g : Geometry) (instrs : ℕ) (f : Flip) : Type 0 where
  pub first : 1 ≤ f.before
  pub last : f.before ≤ instrs + 1
  pub bank : f.bank < g.banks
  pub row : f.row < g.rows
  pub column : f.column < 64 * g.words

-- no flip comes before an earlier one, nor before instruction k
abbrev pub AreSorted : ℕ → List Flip → Type 0
AreSorted k [] = Unit {0}
AreSorted k (f ∷ flips) = (k ≤ f.before) × AreSorted f.before flips
