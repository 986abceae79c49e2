-- The digits of numbers.
use Rattle.std.specs.Prelude.{Bool, true, ◌&&◌, ℕ, List, [], ◌∷◌}
use Rattle.std.specs.Char.{is_ascii_digit}
use Rattle.std.specs.List.{list_all}
use Rattle.text_lex.specs.declared.token.TokenKind.{TokenKind}
use Rattle.text_lex.specs.declared.token.TokenKind.TheVariants as kinds
use Rattle.text_lex.specs.Lexical.{Item, Whole, Bad}

-- a token that is a number has digits alone, so that it has a value
abbrev pub is_written : TokenKind → List ℕ → Bool
is_written kinds.Number text = list_all is_ascii_digit text
is_written kinds.Name text = true
is_written kinds.Symbol text = true

-- each number is written by digits
abbrev pub are_digits : List Item → Bool
are_digits [] = true
are_digits (Whole t ∷ items) = is_written t.kind t.text && are_digits items
are_digits (Bad f ∷ items) = are_digits items
