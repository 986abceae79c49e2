-- One token at a time.
use Rattle.std.proofs.Common.{◌≡◌, List, ◌∷◌, ◌++◌, Some, Result, Ok, Err, ap, ◌∙◌}
use Rattle.text_lex.specs.Lexical.{Item, Lexeme, Whole}
use Rattle.grammar.specs.Machine.{Language, at_token, opens_next, step, after, breach_of}

pub breach_at : {W U S K : Type 0} (l : Language W U S K) (w : W) (wanted : List W) (s : S)
    (u : Lexeme) (items : List Item) (r : Result (List W × S) K)
    → step l w s u (opens_next l items) ≡ r → breach_of l (w ∷ wanted) s (Whole u ∷ items)
    ≡ after r u (λ front s'. breach_of l (front ++ wanted) s' items)
unfolding breach_of
breach_at l w wanted s u items r e =
    ap (λ x. after x u (λ front s'. breach_of l (front ++ wanted) s' items)) e

-- a token that breaks no rule is taken, and what is wanted in its place goes on
pub moved : {W U S K : Type 0} (l : Language W U S K) (w : W) (s : S) (old : List Item)
    (u : Lexeme) (new : List Item) (front : List W) (s' : S) → old ≡ Whole u ∷ new
    → step l w s u (opens_next l new) ≡ Ok (front, s') → (wanted : List W)
    → breach_of l (w ∷ wanted) s old ≡ breach_of l (front ++ wanted) s' new
moved l w s old u new front s' e is wanted = ap (breach_of l (w ∷ wanted) s) e
    ∙ breach_at l w wanted s u new (Ok (front, s')) is

-- a token that breaks a rule is the first breach
pub refused : {W U S K : Type 0} (l : Language W U S K) (w : W) (s : S) (old : List Item)
    (u : Lexeme) (new : List Item) (kind : K) → old ≡ Whole u ∷ new
    → step l w s u (opens_next l new) ≡ Err kind → (wanted : List W)
    → breach_of l (w ∷ wanted) s old ≡ Some (at_token u kind)
refused l w s old u new kind e is wanted = ap (breach_of l (w ∷ wanted) s) e
    ∙ breach_at l w wanted s u new (Err kind) is
