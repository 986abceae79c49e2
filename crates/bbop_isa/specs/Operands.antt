-- The operands of a line.
use Rattle.std.specs.Prelude.{◌≡◌, ◌↔◌, ℕ, ◌+◌, ◌≤◌, List, [], ◌∷◌, ◌++◌, length, map, Option, Some}
use Rattle.std.specs.Prelude.{None}
use Rattle.std.specs.List.{flat_map}
use Rattle.bbop_isa.specs.Words.{Word, Name, Number, Comma, Open, Colon, Close, Other}

-- an operand as it is written, NAME, NAME[K] or NAME[LO:HI]; a number of 2^128 or more has no value
pub data Written : Type 0 where
  Whole : List ℕ → Written
  Bit : List ℕ → Option ℕ → Written
  Bits : List ℕ → Option ℕ → Option ℕ → Written

-- what stands in a line after its first name: an operand, a number or a comma; a stray is a word
-- that belongs to none of them
pub data Term : Type 0 where
  Named : Written → Term
  Value : Option ℕ → Term
  Break : Term
  Stray : Term

-- the terms that words are: brackets belong to the name before them
abbrev pub terms_of : List Word → List Term
terms_of [] = []
terms_of (Name name ∷ Open ∷ Number k ∷ Close ∷ words) = Named (Bit name k) ∷ terms_of words
terms_of (Name name ∷ Open ∷ Number low ∷ Colon ∷ Number high ∷ Close ∷ words) =
    Named (Bits name low high) ∷ terms_of words
terms_of (Name name ∷ words) = Named (Whole name) ∷ terms_of words
terms_of (Number number ∷ words) = Value number ∷ terms_of words
terms_of (Comma ∷ words) = Break ∷ terms_of words
terms_of (word ∷ words) = Stray ∷ terms_of words

-- operands of objects, and then numbers
pub record Operands : Type 0 where
  pub places : List Written
  pub numbers : List (Option ℕ)

-- the operands, after one more of an object
abbrev pub with_place : Written → Option Operands → Option Operands
with_place place None = None
with_place place (Some o) = Some (record { places = place ∷ o.places; numbers = o.numbers })

-- a number in front of operands, which no object may follow
abbrev pub before_places : Option ℕ → List Written → List (Option ℕ) → Option Operands
before_places number [] numbers = Some (record { places = []; numbers = number ∷ numbers })
before_places number (place ∷ places) numbers = None

-- the operands, after one more number: an object does not follow it
abbrev pub with_number : Option ℕ → Option Operands → Option Operands
with_number number None = None
with_number number (Some o) = before_places number o.places o.numbers

-- one or more operands with commas between them: objects, and then numbers
abbrev pub operands_in : List Term → Option Operands
operands_in (Named place ∷ []) = Some (record { places = place ∷ []; numbers = [] })
operands_in (Named place ∷ Break ∷ terms) = with_place place (operands_in terms)
operands_in (Value number ∷ []) = Some (record { places = []; numbers = number ∷ [] })
operands_in (Value number ∷ Break ∷ terms) = with_number number (operands_in terms)
operands_in terms = None

-- the operands that words are
abbrev pub operands_of : List Word → Option Operands
operands_of words = operands_in (terms_of words)

-- the words of an operand
abbrev pub written_words : Written → List Word
written_words (Whole name) = Name name ∷ []
written_words (Bit name k) = Name name ∷ Open ∷ Number k ∷ Close ∷ []
written_words (Bits name low high) =
    Name name ∷ Open ∷ Number low ∷ Colon ∷ Number high ∷ Close ∷ []

-- the words of a term
abbrev pub term_words : Term → List Word
term_words (Named place) = written_words place
term_words (Value number) = Number number ∷ []
term_words Break = Comma ∷ []
term_words Stray = Other ∷ []

-- terms with commas between them
abbrev pub with_commas : List Term → List Term
with_commas [] = []
with_commas (term ∷ []) = term ∷ []
with_commas (term ∷ next ∷ terms) = term ∷ Break ∷ with_commas (next ∷ terms)

-- the words of terms with commas between them
abbrev pub in_words : List Term → List Word
in_words terms = flat_map term_words (with_commas terms)

-- operands of objects and then numbers, one at least, with commas between them
pub record AreOperands (words : List Word) (o : Operands) : Type 0 where
  pub spelled : words ≡ in_words (map Named o.places ++ map Value o.numbers)
  pub some : 1 ≤ length o.places + length o.numbers

-- The operands that words are read as are those that they spell.
abbrev pub OperandsAreSpelled : Type 0
OperandsAreSpelled = (words : List Word) (o : Operands) → (operands_of words ≡ Some o)
    ↔ AreOperands words o
