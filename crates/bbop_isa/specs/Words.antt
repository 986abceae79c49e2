-- The tokens of a line, as a script sees them.
use Rattle.std.specs.Prelude.{ℕ, List, [], ◌∷◌, Option, Some, None, if◌then◌else◌}
use Rattle.std.specs.Prelude.{bytes_eq, codes}
use Rattle.std.specs.Option.{option_map}
use Rattle.text_lex.specs.declared.token.TokenKind.{TokenKind}
use Rattle.text_lex.specs.declared.token.TokenKind.TheVariants as kind
use Rattle.text_lex.specs.Lexical.{Item, Whole, Bad}
use Rattle.bbop_isa.specs.Numbers.{number_of}
use Rattle.bbop_isa.specs.declared.words.Word.{Word as Kept}
use Rattle.bbop_isa.specs.declared.words.Word.TheVariants as kept

-- a token: a name, a number with its value, where that is below 2^128, a symbol of operands, which
-- is one of , [ : ] or another symbol
pub data Word : Type 0 where
  Name : List ℕ → Word
  Number : Option ℕ → Word
  Comma : Word
  Open : Word
  Colon : Word
  Close : Word
  Other : Word

-- a symbol as a script sees it
abbrev pub symbol_at : List ℕ → Word
symbol_at text = if bytes_eq text (codes ",") then Comma
    else (if bytes_eq text (codes "[") then Open
    else (if bytes_eq text (codes ":") then Colon
    else (if bytes_eq text (codes "]") then Close else Other)))

-- a token as a script sees it
abbrev pub word_at : TokenKind → List ℕ → Word
word_at kind.Name text = Name text
word_at kind.Number text = Number (number_of text)
word_at kind.Symbol text = symbol_at text

-- the words of the items of a line, where no byte is a fault
abbrev pub words_in : List Item → Option (List Word)
words_in [] = Some []
words_in (Whole t ∷ items) = option_map (λ words. word_at t.kind t.text ∷ words) (words_in items)
words_in (Bad fault ∷ items) = None

-- a word without where it lies in memory
abbrev pub word_view : Kept → Word
word_view (kept.Name text) = Name text.now
word_view (kept.Number value) = Number value
word_view kept.Comma = Comma
word_view kept.Open = Open
word_view kept.Colon = Colon
word_view kept.Close = Close
word_view kept.Other = Other
