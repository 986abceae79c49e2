-- Numbers as words.
use Rattle.std.specs.Prelude.{ℕ, Bool, false, List, [], ◌∷◌}
use Rattle.std.specs.Char.{is_ascii_digit}
use Rattle.std.specs.List.{list_all}
use Rattle.std.specs.Str.Parse.{digits_value}

-- a word that is decimal digits
abbrev pub is_number : List ℕ → Bool
is_number [] = false
is_number (digit ∷ digits) = list_all is_ascii_digit (digit ∷ digits)

-- the number that such a word writes, however large
abbrev pub value_of : List ℕ → ℕ
value_of word = digits_value 10 word
