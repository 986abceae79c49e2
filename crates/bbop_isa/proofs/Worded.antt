-- The words of a line, as they are read.
use Rattle.std.proofs.Common.{◌≡◌, ℕ, List, ◌++◌, map}
use Rattle.std.specs.Option.{option_map}
use Rattle.std.specs.List.{AllByRecursion}
use Rattle.text_lex.specs.Lexical.{Item, items_of, IsRight}
use Rattle.bbop_isa.specs.declared.words.Word.{Word as Kept}
use Rattle.bbop_isa.specs.Words.{words_in, word_view}

-- the words kept so far stand before those of the items that are left
pub record SoFar (line : List ℕ) (kept : List Kept) (left : List Item) : Type 0 where
  pub words : words_in (items_of line) ≡ option_map (λ ws. map word_view kept ++ ws) (words_in left)
  pub right : AllByRecursion (IsRight line) left
