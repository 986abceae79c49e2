-- What the first fault of a text says, where the texts of the grammar are given in another way.
use Rattle.std.specs.Prelude.{◌≡◌, ◌↔◌, ◌⊎◌, false, List, [], ◌∷◌, ◌++◌, map, Option, Some}
use Rattle.std.specs.Prelude.{None, IsSome}
use Rattle.text_lex.specs.declared.token.LexFault.{LexFault}
use Rattle.text_lex.specs.Lexical.{Item, Lexeme, Whole, Bad}
use Rattle.grammar.specs.declared.Breach.{Breach}
use Rattle.grammar.specs.Machine.{Language, at_token, at_byte, at_end, ends, breach_of, allowed}

-- some text begins with these tokens
abbrev pub IsViable : {U : Type 0} → (List U → Type 0) → List U → Type 0
IsViable {U} IsText us = (more : List U) × IsText (us ++ more)

-- the grammar allows the tokens, and they may end there
abbrev pub IsAccepted : {W U S K : Type 0} → Language W U S K → List U → Type 0
IsAccepted {W} l us = (end : List W) × (allowed l false (l.first ∷ []) us ≡ Some end)
    × (ends l end ≡ None)

-- The grammar's steps accept exactly these texts, and they allow tokens exactly where one of them
-- begins with them.
pub record IsTheGrammar {W U S K : Type 0} (l : Language W U S K) (IsText : List U → Type 0)
    : Type 0 where
  pub accepts : (us : List U) → IsAccepted l us ↔ IsText us
  pub allows : (us : List U) → IsSome (allowed l false (l.first ∷ []) us) ↔ IsViable IsText us

-- the tokens of a text in which every byte belongs to one
abbrev pub whole : List Lexeme → List Item
whole us = map Whole us

-- tokens as the grammar sees them
abbrev pub all_seen : {W U S K : Type 0} → Language W U S K → List Lexeme → List U
all_seen l us = map l.seen us

-- What the grammar alone finds in items: nothing, where they are a text of it; the end, where they
-- are the beginning of one and no whole one; the first token with which no text of it begins; or a
-- byte that starts no token, where the tokens before it begin a text.
pub data GrammarFinds {W U S K : Type 0} (l : Language W U S K) (IsText : List U → Type 0)
    : List Item → Option (Breach K) → Type 0 where
  Text : (us : List Lexeme) → IsText (all_seen l us) → GrammarFinds l IsText (whole us) None
  CutShort : (us : List Lexeme) → IsViable IsText (all_seen l us) → (IsText (all_seen l us) → ⊥)
      → GrammarFinds l IsText (whole us) (Some (at_end l.syntax))
  Wrong : (before : List Lexeme) (token : Lexeme) (following : List Item)
      → IsViable IsText (all_seen l before)
      → (IsViable IsText (all_seen l before ++ l.seen token ∷ []) → ⊥)
      → GrammarFinds l IsText (whole before ++ (Whole token ∷ following))
      (Some (at_token token l.syntax))
  Strange : (before : List Lexeme) (f : LexFault) (following : List Item)
      → IsViable IsText (all_seen l before)
      → GrammarFinds l IsText (whole before ++ (Bad f ∷ following)) (Some (at_byte f l.lex))

-- a kind of fault beside the grammar's
abbrev pub IsOther : {W U S K : Type 0} → Language W U S K → K → Type 0
IsOther l kind = (kind ≡ l.lex → ⊥) × (kind ≡ l.syntax → ⊥)

-- Another rule than the grammar's is broken at a token; up to it they begin a text of the grammar.
pub data BreaksRule {W U S K : Type 0} (l : Language W U S K) (IsText : List U → Type 0)
    : List Item → Option (Breach K) → Type 0 where
  Broken : (before : List Lexeme) (token : Lexeme) (following : List Item) (kind : K)
      → IsOther l kind → IsViable IsText (all_seen l before ++ l.seen token ∷ [])
      → BreaksRule l IsText (whole before ++ (Whole token ∷ following))
      (Some (at_token token kind))

-- The first breach of items is another rule's, or exactly what the grammar finds in them: so there
-- is none exactly where they are a text of the grammar and no rule is broken in it.
pub record SyntaxIsTheGrammars {W U S K : Type 0} (l : Language W U S K)
    (IsText : List U → Type 0) (s : S) (items : List Item) : Type 0 where
  pub first : BreaksRule l IsText items (breach_of l (l.first ∷ []) s items)
      ⊎ GrammarFinds l IsText items (breach_of l (l.first ∷ []) s items)
  pub one : (a b : Option (Breach K)) → GrammarFinds l IsText items a
      → GrammarFinds l IsText items b → a ≡ b
