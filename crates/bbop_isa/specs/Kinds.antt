-- What a line says, and what is wrong with it, by its form.
use Rattle.std.specs.Prelude.{◌≡◌, ◌≢◌, ◌↔◌, ℕ, ◌≤◌, Bool, true, false, ◌&&◌, codes, List, [], ◌∷◌}
use Rattle.std.specs.Prelude.{◌++◌, length, map, Option, Some, Ok, Err}
use Rattle.std.specs.List.{list_all, list_any}
use Rattle.std.specs.Option.{is_some}
use Rattle.text_lex.specs.Lexical.{Item, items_of, Whole as Token, Bad}
use Rattle.text_lex.specs.Spelled.{fits_name}
use Rattle.bbop_isa.specs.declared.instr.Order.TheVariants.{Forward, Turns, Seed}
use Rattle.bbop_isa.specs.declared.instr.ScriptKind.{ScriptKind}
use Rattle.bbop_isa.specs.declared.instr.ScriptKind.TheVariants.{Lex, Syntax, BadName, BadNumber}
use Rattle.bbop_isa.specs.Words.{Word, Name, Number, words_in}
use Rattle.bbop_isa.specs.Operands.{Written, Whole, Named, Value, in_words}
use Rattle.bbop_isa.specs.Forms.{Instruction, Init, Bbop, Load, Fill, Print, Free, Order, line_of}
use Rattle.bbop_isa.specs.Forms.{is_count, is_width, is_seed, has_name, has_bits, place_of}
use Rattle.bbop_isa.specs.Forms.{number_or_zero}

-- What a line of each form holds, whatever its names and numbers are. A number of 2^128 or more has
-- no value.
pub data Form : Type 0 where
  InitForm : List ℕ → Option ℕ → Option ℕ → Form
  BbopForm : List ℕ → Written → List Written → Option ℕ → Option ℕ → Form
  LoadForm : Written → List (Option ℕ) → Form
  FillForm : Written → Option ℕ → Form
  PrintForm : Written → Form
  FreeForm : List ℕ → Form
  InOrder : Form
  TurnsOrder : Form
  SeedOrder : Option ℕ → Form

-- the words of the form
abbrev pub form_words : Form → List Word
form_words (InitForm name count n) = Name (codes "bbop_trsp_init")
    ∷ in_words (Named (Whole name) ∷ Value count ∷ Value n ∷ [])
form_words (BbopForm op dst srcs count n) = Name (codes "bbop_" ++ op)
    ∷ in_words (map Named (dst ∷ srcs) ++ Value count ∷ Value n ∷ [])
form_words (LoadForm place values) = Name (codes "load")
    ∷ in_words (Named place ∷ map Value values)
form_words (FillForm place v) = Name (codes "fill") ∷ in_words (Named place ∷ Value v ∷ [])
form_words (PrintForm place) = Name (codes "print") ∷ in_words (Named place ∷ [])
form_words (FreeForm name) = Name (codes "free") ∷ Name name ∷ []
form_words InOrder = Name (codes "order") ∷ Name (codes "in") ∷ []
form_words TurnsOrder = Name (codes "order") ∷ Name (codes "turns") ∷ []
form_words (SeedOrder seed) = Name (codes "order") ∷ Name (codes "seed") ∷ Number seed ∷ []

-- An operation has one to five operands after the first, and its own name is another than that of
-- the first form; a load has a value.
abbrev pub IsForm : Form → Type 0
IsForm (BbopForm op dst srcs count n) = (op ≢ codes "trsp_init") × (1 ≤ length srcs)
    × (length srcs ≤ 5)
IsForm (LoadForm place values) = 1 ≤ length values
IsForm f = Unit {0}

-- the words of a line are those of a form, whatever its names and numbers are
abbrev pub HasForm : List Word → Form → Type 0
HasForm words f = (words ≡ form_words f) × IsForm f

-- whether each name has 1 to 16 bytes
abbrev pub names_fit : Form → Bool
names_fit (InitForm name count n) = fits_name name
names_fit (BbopForm op dst srcs count n) = fits_name op && list_all has_name (dst ∷ srcs)
names_fit (LoadForm place values) = has_name place
names_fit (FillForm place v) = has_name place
names_fit (PrintForm place) = has_name place
names_fit (FreeForm name) = fits_name name
names_fit f = true

-- whether each number is in its range
abbrev pub numbers_fit : Form → Bool
numbers_fit (InitForm name count n) = is_count count && is_width n
numbers_fit (BbopForm op dst srcs count n) = list_all has_bits (dst ∷ srcs)
    && (is_count count && is_width n)
numbers_fit (LoadForm place values) = has_bits place && list_all is_some values
numbers_fit (FillForm place v) = has_bits place && is_some v
numbers_fit (PrintForm place) = has_bits place
numbers_fit (SeedOrder seed) = is_seed seed
numbers_fit f = true

-- the instruction that a line of the form says, where its names and numbers fit
abbrev pub meaning : Form → Instruction
meaning (InitForm name count n) = Init name (number_or_zero count) (number_or_zero n)
meaning (BbopForm op dst srcs count n) = Bbop op (place_of dst) (map place_of srcs)
    (number_or_zero count) (number_or_zero n)
meaning (LoadForm place values) = Load (place_of place) (map number_or_zero values)
meaning (FillForm place v) = Fill (place_of place) (number_or_zero v)
meaning (PrintForm place) = Print (place_of place)
meaning (FreeForm name) = Free name
meaning InOrder = Order Forward
meaning TurnsOrder = Order Turns
meaning (SeedOrder seed) = Order (Seed (number_or_zero seed))

-- whether a byte starts no token
abbrev pub is_stranger : Item → Bool
is_stranger (Token t) = false
is_stranger (Bad f) = true

-- The tokens of a line, some, where each byte belongs to one.
pub record Reads (line : List ℕ) (words : List Word) : Type 0 where
  pub read : words_in (items_of line) ≡ Some words
  pub some : 1 ≤ length words

-- What is wrong with a line is of this kind: the first of these that is. A byte starts no token;
-- the tokens have no form; a name of the form is too long or no name; a number is out of its range.
abbrev pub IsWrong : List ℕ → ScriptKind → Type 0
IsWrong line Lex = list_any is_stranger (items_of line) ≡ true
IsWrong line Syntax = (words : List Word) × Reads line words × ((f : Form) → HasForm words f → ⊥)
IsWrong line BadName = (words : List Word) × (f : Form) × Reads line words × HasForm words f
    × (names_fit f ≡ false)
IsWrong line BadNumber = (words : List Word) × (f : Form) × Reads line words × HasForm words f
    × (names_fit f ≡ true) × (numbers_fit f ≡ false)

-- A line is refused for what is wrong with it.
abbrev pub LinesAreWrong : Type 0
LinesAreWrong = (line : List ℕ) (kind : ScriptKind) → (line_of line ≡ Err kind)
    ↔ IsWrong line kind

-- A line says this instruction: its words have a form that means it, whose names and numbers fit.
pub record IsLine (line : List ℕ) (i : Instruction) : Type 0 where
  pub form : Form
  pub words : List Word
  pub read : words_in (items_of line) ≡ Some words
  pub has : HasForm words form
  pub names : names_fit form ≡ true
  pub numbers : numbers_fit form ≡ true
  pub means : i ≡ meaning form

-- A line says an instruction where its words are those of a form of the instruction, and they are
-- right.
abbrev pub LinesAreForms : Type 0
LinesAreForms = (line : List ℕ) (i : Instruction) → (line_of line ≡ Ok (Some i))
    ↔ IsLine line i
