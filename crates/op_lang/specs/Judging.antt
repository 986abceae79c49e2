-- What is said of a token.
use Rattle.std.specs.Prelude.{◌≡◌, Bool, true, Some, Result, Ok, Err}
use Rattle.text_lex.specs.declared.token.Token.{Token}
use Rattle.op_text.specs.declared.wanted.Wanted.{Wanted}
use Rattle.op_text.specs.declared.terminal.Terminal.{Terminal}
use Rattle.op_text.specs.Items.{Breach}
use Rattle.op_text.specs.Items.{terminal_of}
use Rattle.op_text.specs.Grammar.{follow}
use Rattle.op_text.specs.Rules.{Scope, rules_at, step}
use Rattle.op_lang.specs.declared.fault.ReadError.{ReadError}
use Rattle.op_lang.specs.declared.fault.ReadError.TheVariants as no
use Rattle.op_lang.specs.Reading.{is_allowed}

-- a token that breaks no rule, whose terminal is the answer
pub record IsFine (wanted : Wanted) (old : Scope) (token : Token) (opened : Bool)
    (terminal : Terminal) (new : Scope) : Type 0 where
  pub is : terminal_of token.kind token.text.now ≡ terminal
  pub allowed : is_allowed (follow wanted terminal opened) ≡ true
  pub rules : rules_at wanted old terminal token.text.now opened ≡ Ok new

-- a token that breaks a rule
pub record IsWrong (wanted : Wanted) (old : Scope) (token : Token) (opened : Bool)
    (b : Breach) : Type 0 where
  pub place : b.at ≡ Some token.start
  pub breaks : step wanted old (terminal_of token.kind token.text.now) token.text.now opened
      ≡ Err b.kind

-- A token is judged by the rules: it is fine, or breaks the rule that is told, or memory was
-- wanting.
abbrev pub JudgesToken : Wanted → Scope → Token → Bool → Result Terminal ReadError → Scope → Type 0
JudgesToken wanted old token opened (Ok u) new = IsFine wanted old token opened u new
JudgesToken wanted old token opened (Err no.Memory) new = Unit {0}
JudgesToken wanted old token opened (Err (no.Breach b)) new = IsWrong wanted old token opened b
