-- The first fault of a text, token by token.
use Rattle.std.specs.Prelude.{Bool, false, List, [], ◌∷◌, ◌++◌, Option, Some, None}
use Rattle.std.specs.Prelude.{option_and_then, Result, Ok, Err, if◌then◌else◌}
use Rattle.text_lex.specs.declared.token.LexFault.{LexFault}
use Rattle.text_lex.specs.Lexical.{Item, Lexeme, Whole, Bad}
use Rattle.grammar.specs.declared.Breach.{Breach}

-- The parts of a language: W is what may be wanted of a token, U a token as the grammar sees it,
-- S what stands before a token, and K the kinds of fault.
pub record Language (W U S K : Type 0) : Type 0 where
  -- a token as the grammar sees it
  pub seen : Lexeme → U
  -- whether it is an opening one, for which the token before it may be taken as another
  pub opens : U → Bool
  -- What the grammar wants after a token, before all that it wanted for later; or none, where it
  -- does not allow the token. The flag says whether an opening token follows.
  pub follow : W → U → Bool → Option (List W)
  -- the rules beside the grammar's at a token that it allows: the first that is broken, or what
  -- stands after the token
  pub rules : W → S → Lexeme → Bool → Result S K
  -- what is wanted of the first token
  pub first : W
  -- whether a text may end where this is wanted
  pub may_end : W → Bool
  -- the faults of the grammar: a byte that starts no token, and a token that is not allowed
  pub lex : K
  pub syntax : K

-- a rule of this kind is broken at a token
abbrev pub at_token : {K : Type 0} → Lexeme → K → Breach K
at_token u kind = record { at = Some u.start; kind = kind }

-- a byte starts no token, and is the fault itself
abbrev pub at_byte : {K : Type 0} → LexFault → K → Breach K
at_byte f lex = record { at = Some f.at; kind = lex }

-- the text ends where the grammar wants more
abbrev pub at_end : {K : Type 0} → K → Breach K
at_end syntax = record { at = None; kind = syntax }

-- whether the next token is an opening one
abbrev pub opens_next : {W U S K : Type 0} → Language W U S K → List Item → Bool
opens_next l [] = false
opens_next l (Bad f ∷ items) = false
opens_next l (Whole u ∷ items) = l.opens (l.seen u)

-- the grammar is asked first, and the other rules only where it allows the token
abbrev pub with_rules : {W S K : Type 0} → K → Option (List W) → Result S K
    → Result (List W × S) K
with_rules syntax None rules = Err syntax
with_rules syntax (Some front) (Err kind) = Err kind
with_rules syntax (Some front) (Ok s) = Ok (front, s)

-- a token, where this is wanted: what is wanted in its place, or the first rule that it breaks
abbrev pub step : {W U S K : Type 0} → Language W U S K → W → S → Lexeme → Bool
    → Result (List W × S) K
step l w s u opened = with_rules l.syntax (l.follow w (l.seen u) opened) (l.rules w s u opened)

-- the end of the text, where this is wanted
abbrev pub ends : {W U S K : Type 0} → Language W U S K → List W → Option (Breach K)
ends l [] = None
ends l (w ∷ wanted) = if l.may_end w then None else Some (at_end l.syntax)

-- what follows a token that meets the rules; one that does not is the first breach
abbrev pub after : {W S K : Type 0} → Result (List W × S) K → Lexeme
    → (List W → S → Option (Breach K)) → Option (Breach K)
after (Ok r) u go = go r.0 r.1
after (Err kind) u go = Some (at_token u kind)

-- The first token that breaks a rule, if any, where all this is wanted.
unfoldable pub breach_of : {W U S K : Type 0} → Language W U S K → List W → S → List Item
    → Option (Breach K)
breach_of l wanted s [] = ends l wanted
breach_of l wanted s (Bad f ∷ items) = Some (at_byte f l.lex)
breach_of l [] s (Whole u ∷ items) = Some (at_token u l.syntax)
breach_of l (w ∷ wanted) s (Whole u ∷ items) =
    after (step l w s u (opens_next l items)) u
    (λ front s'. breach_of l (front ++ wanted) s' items)

-- whether the first of these tokens is an opening one, or the flag where there is none
abbrev pub opens_or : {W U S K : Type 0} → Language W U S K → Bool → List U → Bool
opens_or l opened [] = opened
opens_or l opened (u ∷ us) = l.opens u

-- What the grammar alone wants after tokens; or none, where one is not allowed. The flag says
-- whether an opening token follows the last.
unfoldable pub allowed : {W U S K : Type 0} → Language W U S K → Bool → List W → List U
    → Option (List W)
allowed l opened wanted [] = Some wanted
allowed l opened [] (u ∷ us) = None
allowed l opened (w ∷ wanted) (u ∷ us) =
    option_and_then (λ front. allowed l opened (front ++ wanted) us)
    (l.follow w u (opens_or l opened us))
