-- The tokens of a text with one looked ahead.
use Rattle.std.specs.Prelude.{◌≡◌, Bool, true, false, List, [], ◌∷◌, Some, Result, Ok, Err}
use Rattle.text_lex.specs.Lexical.{Item, Whole, Bad, lexeme_of}
use Rattle.text_lex.specs.declared.token.Token.{Token}
use Rattle.op_text.specs.Items.{Breach}
use Rattle.op_text.specs.Items.{no_token}
use Rattle.op_lang.specs.declared.tokens.Ahead.{Ahead}
use Rattle.op_lang.specs.declared.tokens.Ahead.TheVariants as ahead

-- what is left, where this is looked ahead
abbrev pub shown : Ahead → List Item → List Item
shown (ahead.Token t) rest = Whole (lexeme_of t) ∷ rest
shown (ahead.Stranger f) rest = Bad f ∷ []
shown ahead.End rest = []

-- no token is left
abbrev pub is_nil : List Item → Bool
is_nil [] = true
is_nil (i ∷ items) = false

-- A call that takes a token: the token, or why there is none.
abbrev pub TakesToken : List Item → Result Token Breach → List Item → Type 0
TakesToken old (Ok t) new = old ≡ Whole (lexeme_of t) ∷ new
TakesToken old (Err b) new = (no_token old ≡ Some b) × (new ≡ old)
