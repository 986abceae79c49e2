-- How values are spelled, and which values meet the rules.
use Rattle.std.specs.Prelude.{◌≡◌, ◌+◌, ◌<◌, ℕ, Bool, true, false, ◌&&◌, List, [], ◌∷◌, map}
use Rattle.std.specs.Prelude.{Option, Some, None, ◌↔◌, codes, if◌then◌else◌}
use Rattle.text_lex.specs.Lexical.{Item, Whole, Bad, is_token}
use Rattle.text_lex.specs.Spelled.{fits_name}
use Rattle.text_lex.specs.declared.token.TokenKind.{TokenKind}
use Rattle.text_lex.specs.declared.token.TokenKind.TheVariants as kinds
use Rattle.op_text.specs.declared.tree.Kind.{Kind}
use Rattle.op_text.specs.declared.tree.Kind.TheVariants.{Word, Bit}
use Rattle.op_text.specs.declared.tree.Param.{Param}
use Rattle.op_text.specs.declared.tree.State.{State}
use Rattle.op_text.specs.WordOps.{op_text}
use Rattle.op_text.specs.Items.{spelling_of}
use Rattle.op_text.specs.declared.wanted.Wanted.{Wanted}
use Rattle.op_text.specs.Rules.{Scope, is_plain, breach_of, first_breach}
use Rattle.op_text.specs.Rules.{MAX_DEPTH}
use Rattle.op_text.specs.Language.{Term, Nought, Unity, Named, Negation, Conjunction, Disjunction}
use Rattle.op_text.specs.Language.{Parity, Majority, Equation, Statement, Compute, Visit, Operation}

-- the tokens of an expression, in front of others
abbrev pub term_text : Term → List (List ℕ) → List (List ℕ)
term_text Nought rest = codes "0" ∷ rest
term_text Unity rest = codes "1" ∷ rest
term_text (Named name) rest = name ∷ rest
term_text (Negation a) rest = codes "not" ∷ codes "(" ∷ term_text a (codes ")" ∷ rest)
term_text (Conjunction a b) rest = codes "and" ∷ codes "("
    ∷ term_text a (codes "," ∷ term_text b (codes ")" ∷ rest))
term_text (Disjunction a b) rest = codes "or" ∷ codes "("
    ∷ term_text a (codes "," ∷ term_text b (codes ")" ∷ rest))
term_text (Parity a b) rest = codes "xor" ∷ codes "("
    ∷ term_text a (codes "," ∷ term_text b (codes ")" ∷ rest))
term_text (Majority a b c) rest =
    codes "maj" ∷ codes "(" ∷ term_text a (codes ","
    ∷ term_text b (codes "," ∷ term_text c (codes ")" ∷ rest)))

-- a name that is not reserved and not too long
abbrev pub is_good : List ℕ → Bool
is_good name = fits_name name && is_plain (spelling_of name)

-- What the rules ask of an expression in so many gates, apart from the block's weight.
abbrev pub TermMeets : (List ℕ → Bool) → ℕ → Term → Type 0
TermMeets readable depth Nought = Unit {0}
TermMeets readable depth Unity = Unit {0}
TermMeets readable depth (Named name) = (is_good name ≡ true) × (readable name ≡ true)
TermMeets readable depth (Negation a) = (depth < MAX_DEPTH) × TermMeets readable (depth + 1) a
TermMeets readable depth (Conjunction a b) = (depth < MAX_DEPTH) × TermMeets readable (depth + 1) a
    × TermMeets readable (depth + 1) b
TermMeets readable depth (Disjunction a b) = (depth < MAX_DEPTH) × TermMeets readable (depth + 1) a
    × TermMeets readable (depth + 1) b
TermMeets readable depth (Parity a b) = (depth < MAX_DEPTH) × TermMeets readable (depth + 1) a
    × TermMeets readable (depth + 1) b
TermMeets readable depth (Majority a b c) =
    (depth < MAX_DEPTH) × TermMeets readable (depth + 1) a × TermMeets readable (depth + 1) b
    × TermMeets readable (depth + 1) c

-- tokens by their spellings alone, at no place
abbrev pub kind_of_text : List ℕ → TokenKind
kind_of_text text = if is_token kinds.Name text then kinds.Name
    else (if is_token kinds.Number text then kinds.Number else kinds.Symbol)

-- a token that stands in no text, for rules that ask for no place
abbrev pub unplaced : List ℕ → Item
unplaced text = Whole (record { kind = kind_of_text text; text = text; start = 0 })

-- what the rules read where these are the spellings
abbrev pub items_spelled : List (List ℕ) → List Item
items_spelled texts = map unplaced texts

-- an item without its place
abbrev pub bare : Item → Item
bare (Whole u) = Whole (record { kind = u.kind; text = u.text; start = 0 })
bare (Bad f) = Bad f

-- Whether tokens break a rule doesn't rest on where they stand.
abbrev pub PlacesDoNotMatter : Type 0
PlacesDoNotMatter = (items : List Item) (wanted : List Wanted) (s : Scope)
    → (breach_of wanted s items ≡ None) ↔ (breach_of wanted s (map bare items) ≡ None)

-- the names in an expression are names
abbrev pub HasNames : Term → Type 0
HasNames Nought = Unit {0}
HasNames Unity = Unit {0}
HasNames (Named name) = fits_name name ≡ true
HasNames (Negation a) = HasNames a
HasNames (Conjunction a b) = HasNames a × HasNames b
HasNames (Disjunction a b) = HasNames a × HasNames b
HasNames (Parity a b) = HasNames a × HasNames b
HasNames (Majority a b c) = HasNames a × HasNames b × HasNames c

-- no opening parenthesis follows, so that a name stands for itself
abbrev pub IsShut : List (List ℕ) → Type 0
IsShut x = (y : List (List ℕ)) → x ≡ codes "(" ∷ y → ⊥

-- No two expressions are spelled alike, whatever follows them, if it is no opening parenthesis.
abbrev pub SpelledOnce : Type 0
SpelledOnce = (a b : Term) (x y : List (List ℕ)) → HasNames a → HasNames b → IsShut x → IsShut y
    → term_text a x ≡ term_text b y → (a ≡ b) × (x ≡ y)

-- parts with a comma before each
abbrev pub after_commas : {A : Type 0} → (A → List (List ℕ) → List (List ℕ)) → List A
    → List (List ℕ) → List (List ℕ)
after_commas text [] rest = rest
after_commas text (a ∷ more) rest = codes "," ∷ text a (after_commas text more rest)

-- parts with commas between them, as parameters, arguments and states stand
abbrev pub between_commas : {A : Type 0} → (A → List (List ℕ) → List (List ℕ)) → List A
    → List (List ℕ) → List (List ℕ)
between_commas text [] rest = rest
between_commas text (a ∷ more) rest = text a (after_commas text more rest)

-- a second result or target with its comma, or nothing
abbrev pub after_comma : {A : Type 0} → (A → List (List ℕ) → List (List ℕ)) → Option A
    → List (List ℕ) → List (List ℕ)
after_comma text None rest = rest
after_comma text (Some a) rest = codes "," ∷ text a rest

-- parts one after the other, as statements, lets and ops stand
abbrev pub in_turn : {A : Type 0} → (A → List (List ℕ) → List (List ℕ)) → List A → List (List ℕ)
    → List (List ℕ)
in_turn text [] rest = rest
in_turn text (a ∷ more) rest = text a (in_turn text more rest)

-- how the kind of a name is spelled
abbrev pub kind_text : Kind → List ℕ
kind_text Word = codes "word"
kind_text Bit = codes "bit"

-- how the direction of a block is spelled
abbrev pub direction_text : Bool → List ℕ
direction_text false = codes "up"
direction_text true = codes "down"

-- how the start of a state is spelled
abbrev pub start_text : Bool → List ℕ
start_text false = codes "0"
start_text true = codes "1"

-- a name in front of other spellings
abbrev pub name_text : List ℕ → List (List ℕ) → List (List ℕ)
name_text name rest = name ∷ rest

-- a source or a result with its kind
abbrev pub param_text : Param → List (List ℕ) → List (List ℕ)
param_text p rest = p.name ∷ codes ":" ∷ kind_text p.kind ∷ rest

-- a state with its start
abbrev pub state_text : State → List (List ℕ) → List (List ℕ)
state_text s rest = s.name ∷ codes "=" ∷ start_text s.start ∷ rest

-- a name, its value and the ";" that ends it
abbrev pub equation_text : Equation → List (List ℕ) → List (List ℕ)
equation_text e rest = e.name ∷ codes "=" ∷ term_text e.value (codes ";" ∷ rest)

-- a let of a block
abbrev pub let_text : Equation → List (List ℕ) → List (List ℕ)
let_text e rest = codes "let" ∷ equation_text e rest

-- a word statement or a whole block
abbrev pub statement_text : Statement → List (List ℕ) → List (List ℕ)
statement_text (Compute target second p args) rest =
    target ∷ after_comma name_text second (codes "=" ∷ op_text p ∷ codes "("
    ∷ between_commas name_text args (codes ")" ∷ codes ";" ∷ rest))
statement_text (Visit b) rest =
    codes "serial" ∷ direction_text b.down ∷ codes "("
    ∷ between_commas state_text b.states (codes ")" ∷ codes "{"
    ∷ in_turn let_text b.lets (in_turn equation_text b.assigns (codes "}" ∷ rest)))

-- an op from its first word to its "}"
abbrev pub operation_text : Operation → List (List ℕ) → List (List ℕ)
operation_text o rest =
    codes "op" ∷ o.name ∷ codes "(" ∷ between_commas param_text o.params (codes ")" ∷ codes "->"
    ∷ param_text o.result (after_comma param_text o.second (codes "{"
    ∷ in_turn statement_text o.body (codes "}" ∷ rest))))

-- the tokens of a text of these ops
abbrev pub operations_text : List Operation → List (List ℕ)
operations_text all = in_turn operation_text all []

-- The ops meet the rules: the tokens that they are spelled by break none.
abbrev pub MeetRules : List Operation → Type 0
MeetRules all = first_breach (items_spelled (operations_text all)) ≡ None

-- the names of a value are names
abbrev pub Each : {A : Type 0} → (A → Type 0) → List A → Type 0
Each ok [] = Unit {0}
Each ok (a ∷ more) = ok a × Each ok more

-- what is there is such
abbrev pub IfThere : {A : Type 0} → (A → Type 0) → Option A → Type 0
IfThere ok None = Unit {0}
IfThere ok (Some a) = ok a

-- a name of at most 16 bytes
abbrev pub IsName : List ℕ → Type 0
IsName name = fits_name name ≡ true

-- the name of a source or of a result is one
abbrev pub HasParam : Param → Type 0
HasParam p = IsName p.name

-- the name of a state is one
abbrev pub HasState : State → Type 0
HasState s = IsName s.name

-- the target and all names that its value reads are names
abbrev pub HasEquation : Equation → Type 0
HasEquation e = IsName e.name × HasNames e.value

-- all names in a statement are names
abbrev pub HasStatement : Statement → Type 0
HasStatement (Compute target second p args) = IsName target × IfThere IsName second
    × Each IsName args
HasStatement (Visit b) = Each HasState b.states × Each HasEquation b.lets
    × Each HasEquation b.assigns

-- All names in an op are names, its own among them: so two ops are one where their spellings are.
pub record HasOperation (op : Operation) : Type 0 where
  pub name : IsName op.name
  pub params : Each HasParam op.params
  pub result : HasParam op.result
  pub second : IfThere HasParam op.second
  pub body : Each HasStatement op.body

-- No two lists of ops are spelled alike.
abbrev pub OpsSpelledOnce : Type 0
OpsSpelledOnce = (a b : List Operation) → Each HasOperation a → Each HasOperation b
    → operations_text a ≡ operations_text b → a ≡ b
