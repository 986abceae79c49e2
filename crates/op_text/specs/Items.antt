-- The tokens that are left to read.
use Rattle.std.specs.Prelude.{ℕ, Bool, true, false, List, [], ◌∷◌, Option, Some, None, bytes_eq}
use Rattle.std.specs.Prelude.{codes, if◌then◌else◌}
use Rattle.text_lex.specs.Lexical.{Item, Whole, Bad}
use Rattle.text_lex.specs.declared.token.TokenKind.{TokenKind}
use Rattle.text_lex.specs.declared.token.TokenKind.TheVariants as kinds
use Rattle.op_text.specs.declared.terminal.Terminal.{Terminal}
use Rattle.op_text.specs.declared.terminal.Terminal.TheVariants.{Name, Zero, One, Equals, Opens}
use Rattle.op_text.specs.declared.terminal.Terminal.TheVariants.{Closes, Begins, Finishes, Comma}
use Rattle.op_text.specs.declared.terminal.Terminal.TheVariants.{Semi, Colon, Arrow, Other}
use Rattle.op_text.specs.declared.terminal.Spelling.{Spelling}
use Rattle.op_text.specs.declared.terminal.Spelling.TheVariants as sp
use Rattle.op_text.specs.declared.fault.OpsKind.{OpsKind}
use Rattle.op_text.specs.declared.fault.OpsKind.TheVariants.{Lex, Syntax}
use Rattle.grammar.specs.declared.Breach as any
use Rattle.grammar.specs.Machine as machine

-- which reserved word a name is
abbrev pub spelling_of : List ℕ → Spelling
spelling_of text =
    if bytes_eq text (codes "op") then sp.Op
    else (if bytes_eq text (codes "word") then sp.Word
    else (if bytes_eq text (codes "bit") then sp.Bit
    else (if bytes_eq text (codes "serial") then sp.Serial
    else (if bytes_eq text (codes "up") then sp.Up
    else (if bytes_eq text (codes "down") then sp.Down
    else (if bytes_eq text (codes "let") then sp.Let else sp.Plain))))))

-- which terminal of the grammar a token is
abbrev pub terminal_of : TokenKind → List ℕ → Terminal
terminal_of kinds.Name text = Name (spelling_of text)
terminal_of kinds.Number text = if bytes_eq text (codes "0") then Zero
    else (if bytes_eq text (codes "1") then One else Other)
terminal_of kinds.Symbol text =
    if bytes_eq text (codes "=") then Equals
    else (if bytes_eq text (codes "(") then Opens
    else (if bytes_eq text (codes ")") then Closes
    else (if bytes_eq text (codes "{") then Begins
    else (if bytes_eq text (codes "}") then Finishes
    else (if bytes_eq text (codes ",") then Comma
    else (if bytes_eq text (codes ";") then Semi
    else (if bytes_eq text (codes ":") then Colon
    else (if bytes_eq text (codes "->") then Arrow else Other))))))))

-- the token that makes a name before it a gate
abbrev pub is_opening : Terminal → Bool
is_opening Opens = true
is_opening t = false

-- whether the next token is an opening parenthesis
abbrev pub opens : List Item → Bool
opens [] = false
opens (Bad f ∷ items) = false
opens (Whole t ∷ items) = is_opening (terminal_of t.kind t.text)

-- a rule that is broken, and the place of the token, or none at the end of the text
abbrev pub Breach : Type 0
Breach = any.Breach OpsKind

-- what is wrong where a token is needed and none stands
abbrev pub no_token : List Item → Option Breach
no_token [] = Some (machine.at_end Syntax)
no_token (Bad f ∷ items) = Some (machine.at_byte f Lex)
no_token (Whole t ∷ items) = None

-- the spellings of the tokens
abbrev pub texts : List Item → List (List ℕ)
texts [] = []
texts (Bad f ∷ items) = []
texts (Whole t ∷ items) = t.text ∷ texts items
