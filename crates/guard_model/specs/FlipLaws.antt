-- What the text of the flips comes to, in the words of its subject.
use Rattle.std.specs.Prelude.{◌≡◌, ◌↔◌, ℕ, ◌+◌, ◌≤◌, true, List, [], ◌∷◌, ◌++◌, length, Option}
use Rattle.std.specs.Prelude.{Some, None, Ok, Err}
use Rattle.std.specs.List.{flat_map, list_any}
use Rattle.std.specs.Option.{option_to_list}
use Rattle.text_lex.specs.Lexical.{items_of}
use Rattle.dram_model.specs.declared.geometry.Geometry.{Geometry}
use Rattle.bbop_isa.specs.Lines.{lines_of}
use Rattle.bbop_isa.specs.Words.{Word, Number, words_in}
use Rattle.bbop_isa.specs.Kinds.{Reads, is_stranger}
use Rattle.guard_model.specs.declared.Flip.{Flip}
use Rattle.guard_model.specs.declared.FlipsKind.{FlipsKind}
use Rattle.guard_model.specs.declared.FlipsKind.TheVariants.{Lex, Syntax, Number as BadNumber}
use Rattle.guard_model.specs.declared.FlipsFault.{FlipsFault}
use Rattle.guard_model.specs.FlipText.{AreSorted, IsFlip, flips_of}

-- four numbers, as words. A number of 2^128 or more has no value
abbrev pub four_numbers : (k bank row column : Option ℕ) → List Word
four_numbers k bank row column = Number k ∷ Number bank ∷ Number row ∷ Number column ∷ []

-- the numbers of a flip
abbrev pub flip_words : Flip → List Word
flip_words f = four_numbers (Some f.before) (Some f.bank) (Some f.row) (Some f.column)

-- A line without a token says nothing. Else it says a flip, whose numbers its words are
abbrev pub SaysFlip : Geometry → ℕ → List ℕ → Option Flip → Type 0
SaysFlip g instrs line None = words_in (items_of line) ≡ Some []
SaysFlip g instrs line (Some f) = (words_in (items_of line) ≡ Some (flip_words f))
    × IsFlip g instrs f

-- each line says a flip or nothing, in this order
abbrev pub EachSays : Geometry → ℕ → List (List ℕ) → List (Option Flip) → Type 0
EachSays g instrs [] [] = Unit {0}
EachSays g instrs [] (s ∷ said) = ⊥
EachSays g instrs (line ∷ lines) [] = ⊥
EachSays g instrs (line ∷ lines) (s ∷ said) = SaysFlip g instrs line s
    × EachSays g instrs lines said

-- The lines say these flips, in their order, and none comes before instruction k or an earlier flip
pub record SayFlips (g : Geometry) (instrs k : ℕ) (lines : List (List ℕ)) (flips : List Flip)
    : Type 0 where
  pub said : List (Option Flip)
  pub each : EachSays g instrs lines said
  pub flips_are : flips ≡ flat_map option_to_list said
  pub sorted : AreSorted k flips

-- before which instruction the last of the flips comes, or k where there is none
abbrev pub last_from : ℕ → List Flip → ℕ
last_from k [] = k
last_from k (f ∷ flips) = last_from f.before flips

-- What is wrong with a line, where the flip before it comes before instruction k, is of this kind:
-- the first of these that is. A byte starts no token; the tokens are not four numbers; a number is
-- out of its range, or the first is below k.
abbrev pub IsWrongFlip : Geometry → ℕ → ℕ → List ℕ → FlipsKind → Type 0
IsWrongFlip g instrs k line Lex = list_any is_stranger (items_of line) ≡ true
IsWrongFlip g instrs k line Syntax = (words : List Word) × Reads line words
    × ((a b c d : Option ℕ) → words ≡ four_numbers a b c d → ⊥)
IsWrongFlip g instrs k line BadNumber = (a : Option ℕ) × (b : Option ℕ) × (c : Option ℕ)
    × (d : Option ℕ) × (words_in (items_of line) ≡ Some (four_numbers a b c d))
    × ((f : Flip) → SaysFlip g instrs line (Some f) → k ≤ f.before → ⊥)

-- This is the first line at fault, counted from the first number, and what is wrong with it
pub record FirstWrong (g : Geometry) (instrs first k : ℕ) (lines : List (List ℕ))
    (fault : FlipsFault) : Type 0 where
  pub before : List (List ℕ)
  pub line : List ℕ
  pub following : List (List ℕ)
  pub parted : lines ≡ before ++ line ∷ following
  pub place : fault.line ≡ first + length before
  pub earlier : List Flip
  pub right : SayFlips g instrs k before earlier
  pub wrong : IsWrongFlip g instrs (last_from k earlier) line fault.kind

-- A text is accepted where its lines say flips, and else refused at its first line at fault.
pub record FlipsGoByLines : Type 0 where
  pub accepted : (g : Geometry) (instrs : ℕ) (text : List ℕ) (flips : List Flip)
      → (flips_of g instrs text ≡ Ok flips) ↔ SayFlips g instrs 0 (lines_of text) flips
  pub refused : (g : Geometry) (instrs : ℕ) (text : List ℕ) (fault : FlipsFault)
      → (flips_of g instrs text ≡ Err fault) ↔ FirstWrong g instrs 1 0 (lines_of text) fault
