-- What a function that reads tokens answers.
use Rattle.std.specs.Prelude.{◌≡◌, ℕ, Bool, true, false, ◌&&◌, not, List, [], ◌∷◌, ◌++◌, Option}
use Rattle.std.specs.Prelude.{Some, None, Result, Ok, Err}
use Rattle.text_lex.specs.declared.token.TokenKind.{TokenKind}
use Rattle.text_lex.specs.Lexical.{Item, Whole}
use Rattle.op_text.specs.Items.{Breach}
use Rattle.op_text.specs.declared.wanted.Wanted.{Wanted}
use Rattle.op_text.specs.declared.terminal.Terminal.{Terminal}
use Rattle.op_text.specs.Items.{opens, terminal_of, texts}
use Rattle.op_text.specs.Grammar.{follow}
use Rattle.op_text.specs.Rules.{Scope, rules_at, breach_of, may_end}
use Rattle.op_lang.specs.declared.fault.ReadError.{ReadError}
use Rattle.op_lang.specs.declared.fault.ReadError.TheVariants as no
use Rattle.op_lang.specs.declared.parser.Taken.{Taken}
use Rattle.op_lang.specs.Tokens.{is_nil}

-- a parser is seen as what stands before its next token, and the items that are left
pub record ParserView : Type 0 where
  pub scope : Scope
  pub items : List Item

-- the first token that breaks a rule, where all this is wanted
abbrev pub breach : List Wanted → ParserView → Option Breach
breach wanted r = breach_of wanted r.scope r.items

-- a fault that is told is the one that was found; any text may find the reader out of memory
abbrev pub Fails : Option Breach → ReadError → Type 0
Fails found no.Memory = Unit {0}
Fails found (no.Breach b) = found ≡ Some b

-- Where front is wanted first, and whatever is wanted after it, what was left is as good as what
-- is left where following x is wanted first; or one of the tokens breaks a rule, which is the
-- answer.
abbrev pub MovesTo : {A : Type 0} → List Wanted → ParserView → Result A ReadError
    → (A → List Wanted) → ParserView → Type 0
MovesTo front old (Ok x) following new = (wanted : List Wanted)
    → breach (front ++ wanted) old ≡ breach (following x ++ wanted) new
MovesTo front old (Err e) following new = (wanted : List Wanted)
    → Fails (breach (front ++ wanted) old) e

-- the same where all of front is read
abbrev pub Moves : {A : Type 0} → List Wanted → ParserView → Result A ReadError → ParserView
    → Type 0
Moves front old r new = MovesTo front old r (λ x. []) new

-- the grammar allows the token
abbrev pub is_allowed : Option (List Wanted) → Bool
is_allowed (Some front) = true
is_allowed None = false

-- A token was taken where this is wanted, and breaks no rule.
pub record Took (wanted : Wanted) (old : ParserView) (text : List ℕ) (terminal : Terminal)
    (new : ParserView) : Type 0 where
  pub kind : TokenKind
  pub start : ℕ
  pub items : old.items ≡ Whole (record { kind = kind; text = text; start = start }) ∷ new.items
  pub is : terminal_of kind text ≡ terminal
  pub allowed : is_allowed (follow wanted terminal (opens new.items)) ≡ true
  pub rules : rules_at wanted old.scope terminal text (opens new.items) ≡ Ok new.scope

-- One token was taken, or it is at fault whatever is wanted later.
abbrev pub Takes : Wanted → ParserView → Result Taken ReadError → ParserView → Type 0
Takes wanted old (Ok t) new = Took wanted old t.text.now t.terminal new
Takes wanted old (Err e) new = (more : List Wanted) → Fails (breach (wanted ∷ more) old) e

-- a token is wanted, or the text may not end here
abbrev pub is_due : Wanted → ParserView → Bool
is_due wanted r = not (may_end wanted && is_nil r.items)

-- the spellings of the tokens that are left
abbrev pub left : ParserView → List (List ℕ)
left r = texts r.items
