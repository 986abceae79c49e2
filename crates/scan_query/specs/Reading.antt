-- What a function that reads a query's tokens answers.
use Rattle.std.specs.Prelude.{◌≡◌, ℕ, Bool, true, false, List, [], ◌∷◌, ◌++◌, map, Option, Some}
use Rattle.std.specs.Prelude.{None, Result, Ok, Err, is_ok, codes, length}
use Rattle.bbop_isa.specs.declared.instr.Part.{Part}
use Rattle.bbop_isa.specs.declared.instr.Place.{Place}
use Rattle.scan_model.specs.Queries.{Operand, place_of}
use Rattle.scan_model.specs.Queries.{Node, And, Or, Query, nodes_from, last_from}
use Rattle.std.specs.Char.{is_ascii_digit}
use Rattle.std.specs.List.{AllPass}
use Rattle.std.specs.Str.Parse.{digits_value}
use Rattle.text_lex.specs.Lexical.{Item, Lexeme, Whole, items_of}
use Rattle.grammar.specs.declared.Breach.{Breach}
use Rattle.scan_model.specs.declared.QueryKind.{QueryKind}
use Rattle.scan_model.specs.Texts as model
use Rattle.scan_model.specs.TextLaws.{words_of}
use Rattle.scan_query.specs.declared.reading.Lead.{Lead}
use Rattle.scan_query.specs.declared.reading.Lead.TheVariants as lead
use Rattle.scan_query.specs.declared.reading.Mark.{Mark}
use Rattle.scan_query.specs.declared.reading.Mark.TheVariants as mark
use Rattle.scan_query.specs.declared.parser.Parser.{Parser}
use Rattle.scan_query.specs.declared.reading.ReadError.{ReadError}
use Rattle.scan_query.specs.declared.reading.ReadError.TheVariants as stop
use Rattle.scan_query.specs.declared.reading.Taken.{Taken}
use Rattle.scan_query.specs.declared.reading.Word.{Word}
use Rattle.scan_query.specs.declared.reading.Word.TheVariants as word

-- a token of the code as the definitions have it
abbrev pub word_view : Word → model.Word
word_view (word.Name text) = model.Name text.now
word_view (word.Number digits) = model.Number (digits_value 10 digits.now)
word_view word.Opens = model.Opens
word_view word.Closes = model.Closes
word_view word.Comma = model.Comma
word_view word.OpensBits = model.OpensBits
word_view word.Colon = model.Colon
word_view word.ClosesBits = model.ClosesBits
word_view word.Other = model.Other

-- what a number is read of are digits
abbrev pub IsNumber : Word → Type 0
IsNumber (word.Number digits) = AllPass is_ascii_digit digits.now
IsNumber w = Unit {0}

-- the beginning of a query, as the definitions have it
abbrev pub lead_of : Lead → model.Lead
lead_of (lead.Compares op) = model.Compares op
lead_of lead.Negates = model.Negates
lead_of lead.Ands = model.Ands
lead_of lead.Ors = model.Ors

-- what is wanted after the beginning of a query
abbrev pub after_lead : Lead → List model.Wanted
after_lead l = model.wanted_after (lead_of l)

-- which beginning of a query a token is
abbrev pub lead_at : Word → Option model.Lead
lead_at (word.Name text) = model.lead_among model.all_leads text.now
lead_at w = None

-- where the grammar wants this symbol
abbrev pub wanted_by : Mark → model.Wanted
wanted_by mark.Opens = model.Open
wanted_by mark.Closes = model.Close
wanted_by mark.Comma = model.Between
wanted_by mark.ClosesBits = model.AtHigh
wanted_by mark.EndsBits = model.AtBits

-- what is wanted after this symbol
abbrev pub after_mark : Mark → List model.Wanted
after_mark mark.Opens = []
after_mark mark.Closes = []
after_mark mark.Comma = []
after_mark mark.ClosesBits = model.AtBits ∷ []
after_mark mark.EndsBits = model.Bound ∷ []

-- the token that this symbol is
abbrev pub word_by : Mark → model.Word
word_by mark.Opens = model.Opens
word_by mark.Closes = model.Closes
word_by mark.Comma = model.Comma
word_by mark.ClosesBits = model.ClosesBits
word_by mark.EndsBits = model.Comma

-- whether a token is this symbol: it may stand where the symbol is wanted
abbrev pub is_it : Mark → Word → Bool
is_it m w = is_ok (model.step (wanted_by m) model.none_begun (word_view w))

-- what has begun, and the items that are left
pub record ParserView : Type 0 where
  pub begun : model.Begun
  pub items : List Item

-- how many nodes and comparisons a parser has begun
abbrev pub begun_by : Parser → model.Begun
begun_by p = record { nodes = p.nodes; tests = p.tests }

-- what a parser has begun, and what is left for it to read
abbrev pub seen : Parser → ParserView
seen p = record { begun = begun_by p; items = p.lexer }

-- the tokens that are left
abbrev pub left : ParserView → List model.Word
left r = words_of r.items

-- the first token that breaks a rule, where all this is wanted
abbrev pub breach : List model.Wanted → ParserView → Option (Breach QueryKind)
breach wanted r = model.breach_of wanted r.begun r.items

-- a fault that is told is the one that was found; a reader may be out of memory at any text
abbrev pub Fails : Option (Breach QueryKind) → ReadError → Type 0
Fails found stop.Memory = Unit {0}
Fails found (stop.Breach at kind) = found ≡ Some (record { at = at; kind = kind })

-- Where front is wanted first, and whatever is wanted after it, what was left is as good as what
-- is left where following x is wanted first; or one of the tokens breaks a rule, which is the
-- answer.
abbrev pub MovesTo : {A : Type 0} → List model.Wanted → ParserView → Result A ReadError
    → (A → List model.Wanted) → ParserView → Type 0
MovesTo front old (Ok x) following new = (wanted : List model.Wanted)
    → breach (front ++ wanted) old ≡ breach (following x ++ wanted) new
MovesTo front old (Err e) following new = (wanted : List model.Wanted)
    → Fails (breach (front ++ wanted) old) e

-- all of front is read, or one of the tokens breaks a rule, which is the answer
abbrev pub Moves : {A : Type 0} → List model.Wanted → ParserView → Result A ReadError → ParserView
    → Type 0
Moves front old r new = MovesTo front old r (λ x. []) new

-- no rule is broken, or this is the first token that breaks one
abbrev pub Finds : {A : Type 0} → Option (Breach QueryKind) → Result A ReadError → Type 0
Finds found (Ok x) = found ≡ None
Finds found (Err e) = Fails found e

-- a whole text, before anything is read
abbrev pub start_of : List ℕ → ParserView
start_of text = record { begun = model.none_begun; items = items_of text }

-- a token was taken
pub record Took (word : model.Word) (at : ℕ) (old new : ParserView) : Type 0 where
  pub token : Lexeme
  pub items : old.items ≡ Whole token ∷ new.items
  pub is : word ≡ model.queries.seen token
  pub place : token.start ≡ at
  pub begun : new.begun ≡ old.begun

-- One token was taken, or it is at fault whatever is wanted later.
abbrev pub Takes : ParserView → Result Taken ReadError → ParserView → Type 0
Takes old (Ok t) new = Took (word_view t.word) t.at old new
Takes old (Err e) new = (want : model.Wanted) (more : List model.Wanted)
    → Fails (breach (want ∷ more) old) e

-- These words, and those that are left, spell a query, whose nodes stand after those before, the
-- last at this place.
pub record Reads (words : List model.Word) (k : ℕ) (new : ParserView) (before after : List Node)
    : Type 0 where
  pub tree : Query
  pub spelling : words ≡ model.spelled tree (left new)
  pub nodes : after ≡ before ++ nodes_from (length before) tree
  pub last : k ≡ last_from (length before) tree

-- a join of two nodes, by which of the two it is
abbrev pub join_node : Bool → ℕ → ℕ → Node
join_node true a b = And a b
join_node false a b = Or a b

-- how a join of two queries is spelled
abbrev pub join_text : Bool → List ℕ
join_text true = codes "and"
join_text false = codes "or"

-- After any name, these words spell this part of an object, and then the rest.
abbrev pub SpellsPart : List model.Word → Option Part → List model.Word → Type 0
SpellsPart words part rest = (name : List ℕ) → (o : Operand)
    × (place_of o ≡ record { name = name; part = part })
    × (model.Name name ∷ words ≡ model.in_front o rest)

-- These words spell this operand with a comma after it, and then the rest.
abbrev pub SpellsPlace : List model.Word → Place → List model.Word → Type 0
SpellsPlace words place rest = (o : Operand) × (place_of o ≡ place)
    × (words ≡ model.in_front o (model.Comma ∷ rest))
