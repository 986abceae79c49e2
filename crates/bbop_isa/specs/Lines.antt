-- The lines of a text.
use Rattle.std.specs.Prelude.{◌≡◌, ℕ, true, ◌==◌, List, [], ◌∷◌, if◌then◌else◌}
use Rattle.std.specs.List.{list_all, join_with_byte, AllByRecursion}
use Rattle.text_lex.specs.Bytes.{is_no_newline}

-- the lines, the first of which begins with this byte
abbrev pub begun : ℕ → List (List ℕ) → List (List ℕ)
begun b [] = (b ∷ []) ∷ []
begun b (line ∷ lines) = (b ∷ line) ∷ lines

-- the lines of a text, which newlines part
abbrev pub lines_of : List ℕ → List (List ℕ)
lines_of [] = [] ∷ []
lines_of (b ∷ bs) = if b == 10 then [] ∷ lines_of bs else begun b (lines_of bs)

-- These are the lines of the text: no line holds a newline, and with newlines between them they are
-- the text.
pub record AreLines (text : List ℕ) (lines : List (List ℕ)) : Type 0 where
  pub whole : join_with_byte 10 lines ≡ text
  pub parted : AllByRecursion (λ line. list_all is_no_newline line ≡ true) lines
