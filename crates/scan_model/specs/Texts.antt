-- The text of a query, token by token.
use Rattle.std.specs.Prelude.{option_map, ℕ, ◌+◌, ◌^◌, nat_lt, nat_le, Bool, false, ◌&&◌}
use Rattle.std.specs.Prelude.{List, [], ◌∷◌, Option, Some, None, Result, Ok, Err}
use Rattle.std.specs.Prelude.{bytes_eq, codes}
use Rattle.std.specs.Prelude.{if◌then◌else◌}
use Rattle.std.specs.Str.Parse.{digits_value}
use Rattle.bit_rows.specs.declared.TheConstants.{WIDTH_MAX}
use Rattle.text_lex.specs.Lexical.{Item, Whole as Read, Bad, items_of}
use Rattle.text_lex.specs.Spelled.{fits_name}
use Rattle.text_lex.specs.declared.token.TokenKind.{TokenKind}
use Rattle.text_lex.specs.declared.token.TokenKind.TheVariants as kinds
use Rattle.grammar.specs.declared.Breach.{Breach}
use Rattle.grammar.specs.Machine as machine
use Rattle.grammar.specs.Machine.{Language}
use Rattle.scan_model.specs.declared.CmpOp.{CmpOp}
use Rattle.scan_model.specs.declared.CmpOp.TheVariants as cmp
use Rattle.op_text.specs.Lines.{line_of}
use Rattle.scan_model.specs.declared.QueryFault.{QueryFault}
use Rattle.scan_model.specs.declared.QueryKind.{QueryKind}
use Rattle.scan_model.specs.declared.QueryKind.TheVariants.{Lex, Syntax, BadName, BadNumber}
use Rattle.scan_model.specs.declared.QueryKind.TheVariants.{TooMany}
use Rattle.scan_model.specs.Queries.{Operand, Whole, Bit, Bits}
use Rattle.scan_model.specs.Queries.{Query, Compare, Negate, Both, Either}

-- a token as a query sees it; a Stranger is a byte that starts no token
pub data Word : Type 0 where
  Name : List ℕ → Word
  Number : ℕ → Word
  Opens : Word
  Closes : Word
  Comma : Word
  OpensBits : Word
  Colon : Word
  ClosesBits : Word
  Other : Word
  Stranger : Word

-- a symbol as a query sees it
abbrev pub symbol_of : List ℕ → Word
symbol_of text = if bytes_eq text (codes "(") then Opens else
    (if bytes_eq text (codes ")") then Closes else
    (if bytes_eq text (codes ",") then Comma else
    (if bytes_eq text (codes "[") then OpensBits else
    (if bytes_eq text (codes ":") then Colon else
    (if bytes_eq text (codes "]") then ClosesBits else Other)))))

-- a token as a query sees it
abbrev pub word_at : TokenKind → List ℕ → Word
word_at kinds.Name text = Name text
word_at kinds.Number text = Number (digits_value 10 text)
word_at kinds.Symbol text = symbol_of text

-- an item as a query sees it
abbrev pub word_of : Item → Word
word_of (Read t) = word_at t.kind t.text
word_of (Bad f) = Stranger

-- what a query begins with
pub data Lead : Type 0 where
  Compares : CmpOp → Lead
  Negates : Lead
  Ands : Lead
  Ors : Lead

-- how the beginning of a query is spelled
abbrev pub lead_text : Lead → List ℕ
lead_text (Compares cmp.Eq) = codes "eq"
lead_text (Compares cmp.Gt) = codes "gt"
lead_text (Compares cmp.Ge) = codes "ge"
lead_text (Compares cmp.Lt) = codes "lt"
lead_text (Compares cmp.Le) = codes "le"
lead_text Negates = codes "not"
lead_text Ands = codes "and"
lead_text Ors = codes "or"

-- every word that a query may begin with
abbrev pub all_leads : List Lead
all_leads = Compares cmp.Eq ∷ Compares cmp.Gt ∷ Compares cmp.Ge ∷ Compares cmp.Lt
    ∷ Compares cmp.Le ∷ Negates ∷ Ands ∷ Ors ∷ []

-- which of these beginnings a name is
abbrev pub lead_among : List Lead → List ℕ → Option Lead
lead_among [] text = None
lead_among (lead ∷ leads) text = if bytes_eq text (lead_text lead) then Some lead else lead_among
    leads text

-- what the grammar asks for: of a comparison an object's name, and after it a comma or its bits,
-- which begin at some bit (Low), and end there (AtLow) or at a higher one (High); then the number
pub data Wanted : Type 0 where
  Start : Wanted
  Open : Wanted
  Object : Wanted
  AtName : Wanted
  Low : Wanted
  AtLow : (low : ℕ) → Wanted
  High : (low : ℕ) → Wanted
  AtHigh : Wanted
  AtBits : Wanted
  Between : Wanted
  Bound : Wanted
  Close : Wanted

-- a query, after its first token
abbrev pub wanted_after : Lead → List Wanted
wanted_after (Compares op) = Open ∷ Object ∷ Close ∷ []
wanted_after Negates = Open ∷ Start ∷ Close ∷ []
wanted_after Ands = Open ∷ Start ∷ Between ∷ Start ∷ Close ∷ []
wanted_after Ors = Open ∷ Start ∷ Between ∷ Start ∷ Close ∷ []

-- how many nodes and comparisons have begun
pub record Begun : Type 0 where
  pub nodes : ℕ
  pub tests : ℕ

-- how many comparisons begin there: one, or none where queries are joined
abbrev pub tests_in : Lead → ℕ
tests_in (Compares op) = 1
tests_in Negates = 0
tests_in Ands = 0
tests_in Ors = 0

-- one node more has begun
abbrev pub with_lead : Begun → Lead → Begun
with_lead s lead = record { nodes = s.nodes + 1; tests = s.tests + tests_in lead }

-- at most 64 nodes and 32 comparisons have begun
abbrev pub fits : Begun → Bool
fits s = nat_le s.nodes 64 && nat_le s.tests 32

-- a rule: where it is met, the token is taken
abbrev pub checked : Bool → Begun → QueryKind → Result Begun QueryKind
checked right s kind = if right then Ok s else Err kind

-- a node begins, unless there are too many
abbrev pub started : Begun → Option Lead → Result Begun QueryKind
started s None = Ok s
started s (Some lead) = checked (fits (with_lead s lead)) (with_lead s lead) TooMany

-- What the grammar wants after a token, before all that it wanted for later; or none, where it
-- does not allow the token.
abbrev pub follow : Wanted → Word → Option (List Wanted)
follow Start (Name text) = option_map wanted_after (lead_among all_leads text)
follow Open Opens = Some []
follow Object (Name text) = Some (AtName ∷ [])
follow AtName Comma = Some (Bound ∷ [])
follow AtName OpensBits = Some (Low ∷ [])
follow Low (Number v) = Some (AtLow v ∷ [])
follow (AtLow low) ClosesBits = Some (AtBits ∷ [])
follow (AtLow low) Colon = Some (High low ∷ [])
follow (High low) (Number v) = Some (AtHigh ∷ [])
follow AtHigh ClosesBits = Some (AtBits ∷ [])
follow AtBits Comma = Some (Bound ∷ [])
follow Between Comma = Some []
follow Bound (Number v) = Some []
follow Close Closes = Some []
follow w word = None

-- the rules beside the grammar's at a token that it allows
abbrev pub rules_at : Wanted → Begun → Word → Result Begun QueryKind
rules_at Start s (Name text) = started s (lead_among all_leads text)
rules_at Object s (Name text) = checked (fits_name text) s BadName
rules_at Low s (Number v) = checked (nat_lt v WIDTH_MAX) s BadNumber
rules_at (High low) s (Number v) = checked (nat_lt low v && nat_le v WIDTH_MAX) s BadNumber
rules_at Bound s (Number v) = checked (nat_lt v (2 ^ 128)) s BadNumber
rules_at w s word = Ok s

-- Queries, as a language. No token rests on the next.
abbrev pub queries : Language Wanted Word Begun QueryKind
queries = record {
  seen = λ t. word_at t.kind t.text;
  opens = λ word. false;
  follow = λ w word opened. follow w word;
  rules = λ w s t opened. rules_at w s (word_at t.kind t.text);
  first = Start;
  may_end = λ w. false;
  lex = Lex;
  syntax = Syntax;
}

-- the next token, where this is wanted: what is wanted in its place, or the first rule that it
-- breaks
abbrev pub step : Wanted → Begun → Word → Result (List Wanted × Begun) QueryKind
step w s word = machine.with_rules Syntax (follow w word) (rules_at w s word)

-- the first token that breaks a rule
abbrev pub breach_of : List Wanted → Begun → List Item → Option (Breach QueryKind)
breach_of wanted s items = machine.breach_of queries wanted s items

-- what has begun before the first token
abbrev pub none_begun : Begun
none_begun = record { nodes = 0; tests = 0 }

-- the first token of a text that breaks a rule, if any
abbrev pub first_breach : List ℕ → Option (Breach QueryKind)
first_breach text = breach_of (Start ∷ []) none_begun (items_of text)

-- the fault of a text by its line, as in operation texts, or none where it is accepted
abbrev pub fault_in : List ℕ → Option QueryFault
fault_in text = option_map (λ b. record { line = line_of text b.at; kind = b.kind })
    (first_breach text)

-- the tokens of an operand, in front of others
abbrev pub in_front : Operand → List Word → List Word
in_front (Whole name) rest = Name name ∷ rest
in_front (Bit name k) rest = Name name ∷ OpensBits ∷ Number k ∷ ClosesBits ∷ rest
in_front (Bits name low high) rest = Name name ∷ OpensBits ∷ Number low ∷ Colon ∷ Number high
    ∷ ClosesBits ∷ rest

-- the tokens of a query, in front of others
abbrev pub spelled : Query → List Word → List Word
spelled (Compare op operand v) rest = Name (lead_text (Compares op)) ∷ Opens
    ∷ in_front operand (Comma ∷ Number v ∷ Closes ∷ rest)
spelled (Negate a) rest = Name (codes "not") ∷ Opens ∷ spelled a (Closes ∷ rest)
spelled (Both a b) rest = Name (codes "and") ∷ Opens
    ∷ spelled a (Comma ∷ spelled b (Closes ∷ rest))
spelled (Either a b) rest = Name (codes "or") ∷ Opens
    ∷ spelled a (Comma ∷ spelled b (Closes ∷ rest))
