-- What the texts of queries come to.
use Rattle.std.specs.Prelude.{◌≡◌, ℕ, ◌+◌, ◌^◌, ◌<◌, ◌≤◌, nat_lt, nat_le, Bool, true, false, ◌||◌}
use Rattle.std.specs.Prelude.{List, [], ◌∷◌, ◌++◌, map, count_by, reverse, Option, Some, None}
use Rattle.std.specs.Prelude.{◌↔◌, ◌⊎◌}
use Rattle.text_lex.specs.Lexical.{Item, Lexeme, Whole as Read}
use Rattle.text_lex.specs.Spelled.{fits_name}
use Rattle.bit_rows.specs.declared.TheConstants.{WIDTH_MAX}
use Rattle.grammar.specs.declared.Breach.{Breach}
use Rattle.grammar.specs.Laws.{IsViable, SyntaxIsTheGrammars, all_seen, whole}
use Rattle.scan_model.specs.Queries.{Query, Compare, Negate, Both, Either, IsPart, place_of, size}
use Rattle.scan_model.specs.declared.QueryKind.{QueryKind}
use Rattle.scan_model.specs.declared.QueryKind.TheVariants.{BadName, BadNumber, TooMany}
use Rattle.scan_model.specs.Texts.{Word, Name, Number, Opens, OpensBits, Colon, Start, Lead}
use Rattle.scan_model.specs.Texts.{lead_text, tests_in, breach_of, none_begun, queries, spelled}
use Rattle.scan_model.specs.Texts.{word_of}

-- how many comparisons a query has
abbrev pub tests : Query → ℕ
tests (Compare op operand v) = 1
tests (Negate a) = tests a
tests (Both a b) = tests a + tests b
tests (Either a b) = tests a + tests b

-- its names, bits and numbers fit
abbrev pub IsWritten : Query → Type 0
IsWritten (Compare op operand v) = (fits_name (place_of operand).name ≡ true) × IsPart operand
    × (v < 2 ^ 128)
IsWritten (Negate a) = IsWritten a
IsWritten (Both a b) = IsWritten a × IsWritten b
IsWritten (Either a b) = IsWritten a × IsWritten b

-- a query as a text may have it: at most 64 nodes, of which 32 are comparisons
pub record IsQuery (q : Query) : Type 0 where
  pub small : size q ≤ 64
  pub few : tests q ≤ 32
  pub written : IsWritten q

-- The tokens of a text are those of this query, which is within the limits.
pub record Says (words : List Word) (q : Query) : Type 0 where
  pub spelling : words ≡ spelled q []
  pub query : IsQuery q

-- the tokens of a text
abbrev pub words_of : List Item → List Word
words_of items = map word_of items

-- these are the tokens of a query
abbrev pub IsText : List Word → Type 0
IsText words = (q : Query) × (words ≡ spelled q [])

-- this token stands at this place, and these before it
pub record StandsAt (items : List Item) (at : Option ℕ) (before : List Word) (word : Word)
    : Type 0 where
  pub front : List Lexeme
  pub token : Lexeme
  pub others : List Item
  pub parts : items ≡ whole front ++ (Read token ∷ others)
  pub place : at ≡ Some token.start
  pub before_is : before ≡ all_seen queries front
  pub word_is : word ≡ queries.seen token

-- a BadName fault at this place: a name may stand there, and it has too many bytes for an object
pub record BreaksName (items : List Item) (at : Option ℕ) : Type 0 where
  pub before : List Word
  pub name : List ℕ
  pub stands : StandsAt items at before (Name name)
  pub viable : IsViable IsText (before ++ Name name ∷ [])
  pub long : fits_name name ≡ false

-- whether a number may not stand after these tokens, of which the last comes first: after `[` it
-- is no bit of an object, after `LO :` it does not end bits from LO on, or it is too large
abbrev pub is_bad : List Word → ℕ → Bool
is_bad (OpensBits ∷ words) v = nat_le WIDTH_MAX v
is_bad (Colon ∷ Number low ∷ words) v = nat_le v low || nat_lt WIDTH_MAX v
is_bad words v = nat_le (2 ^ 128) v

-- a BadNumber fault at this place: a number may stand there, and not this one
pub record BreaksNumber (items : List Item) (at : Option ℕ) : Type 0 where
  pub before : List Word
  pub number : ℕ
  pub stands : StandsAt items at before (Number number)
  pub viable : IsViable IsText (before ++ Number number ∷ [])
  pub bad : is_bad (reverse before) number ≡ true

-- a token that each node has one of
abbrev pub is_opening : Word → Bool
is_opening Opens = true
is_opening word = false

-- a name: each node has one, and each comparison that of its object too
abbrev pub is_name : Word → Bool
is_name (Name text) = true
is_name word = false

-- A TooMany fault at this place: a node begins there, and 64 have begun before it; or a comparison
-- does, and 32 have.
pub record BreaksCount (items : List Item) (at : Option ℕ) : Type 0 where
  pub before : List Word
  pub lead : Lead
  pub stands : StandsAt items at before (Name (lead_text lead))
  pub viable : IsViable IsText (before ++ Name (lead_text lead) ∷ Opens ∷ [])
  pub full : (count_by is_opening before ≡ 64)
      ⊎ (tests_in lead ≡ 1) × (count_by is_name before ≡ count_by is_opening before + 32)

-- All laws of query texts: accepted are the spellings of queries, each of one alone, and a fault is
-- of its kind and at its place.
pub record QueryTextLaws : Type 0 where
  -- no rule is broken exactly where the tokens are the spelling of a query
  pub accepted : (items : List Item) → (breach_of (Start ∷ []) none_begun items ≡ None) ↔
      ((q : Query) × Says (words_of items) q)
  -- and of one alone
  pub once : (p q : Query) → spelled p [] ≡ spelled q [] → p ≡ q
  -- the first fault decides, whatever follows
  pub first : (items more : List Item) (b : Breach QueryKind) (place : ℕ)
      → breach_of (Start ∷ []) none_begun items ≡ Some b → b.at ≡ Some place
      → breach_of (Start ∷ []) none_begun (items ++ more) ≡ Some b
  -- a fault of kind Lex or Syntax is the grammar's
  pub syntax_faults : (items : List Item) → SyntaxIsTheGrammars queries IsText none_begun items
  -- and one of another kind is at a token that the grammar allows
  pub name_faults : (items : List Item) (b : Breach QueryKind)
      → breach_of (Start ∷ []) none_begun items ≡ Some b → b.kind ≡ BadName
      → BreaksName items b.at
  pub number_faults : (items : List Item) (b : Breach QueryKind)
      → breach_of (Start ∷ []) none_begun items ≡ Some b → b.kind ≡ BadNumber
      → BreaksNumber items b.at
  pub count_faults : (items : List Item) (b : Breach QueryKind)
      → breach_of (Start ∷ []) none_begun items ≡ Some b → b.kind ≡ TooMany
      → BreaksCount items b.at
