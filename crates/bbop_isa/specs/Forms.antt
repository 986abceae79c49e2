-- The forms of a line.
use Rattle.std.specs.Prelude.{ℕ, ◌-◌, ◌^◌, nat_le, nat_lt, Bool, true, false, not, ◌&&◌, List, []}
use Rattle.std.specs.Prelude.{◌∷◌}
use Rattle.std.specs.Prelude.{map, length, drop, Option, Some, None, Result, Ok, Err, unwrap_or}
use Rattle.std.specs.Prelude.{if◌then◌else◌, bytes_eq, codes, nat_eq}
use Rattle.std.specs.Option.{is_some}
use Rattle.std.specs.List.{list_all, starts_with}
use Rattle.text_lex.specs.Lexical.{items_of}
use Rattle.text_lex.specs.Spelled.{fits_name}
use Rattle.bit_rows.specs.declared.TheConstants.{WIDTH_MAX}
use Rattle.bbop_isa.specs.declared.forms.Verb.{Verb}
use Rattle.bbop_isa.specs.declared.forms.Verb.TheVariants as verb
use Rattle.bbop_isa.specs.declared.instr.Order.{Order as Orders}
use Rattle.bbop_isa.specs.declared.instr.Order.TheVariants.{Forward, Turns, Seed}
use Rattle.bbop_isa.specs.declared.instr.Place.{Place}
use Rattle.bbop_isa.specs.declared.instr.Instr.{Instr}
use Rattle.bbop_isa.specs.declared.instr.Instr.TheVariants as instr
use Rattle.bbop_isa.specs.declared.instr.ScriptKind.{ScriptKind}
use Rattle.bbop_isa.specs.declared.instr.ScriptKind.TheVariants.{Lex, Syntax, BadName, BadNumber}
use Rattle.bbop_isa.specs.Words.{Word, Name, Number, words_in}
use Rattle.bbop_isa.specs.Operands.{Written, Whole, Bit, Bits, Operands, operands_of}

-- an instruction without where it lies in memory
pub data Instruction : Type 0 where
  Init : List ℕ → ℕ → ℕ → Instruction
  Bbop : List ℕ → Place → List Place → ℕ → ℕ → Instruction
  Load : Place → List ℕ → Instruction
  Fill : Place → ℕ → Instruction
  Print : Place → Instruction
  Free : List ℕ → Instruction
  Order : Orders → Instruction

-- the instruction that a parsed line holds
abbrev pub view_of : Instr → Instruction
view_of (instr.Init name count n) = Init name count n
view_of (instr.Bbop op dst srcs count n) = Bbop op dst srcs.items count n
view_of (instr.Load place values) = Load place values.items
view_of (instr.Fill place value) = Fill place value
view_of (instr.Print place) = Print place
view_of (instr.Free name) = Free name
view_of (instr.Order order) = Order order

-- a number of elements: from 1 to 2^32 - 1
abbrev pub is_count : Option ℕ → Bool
is_count None = false
is_count (Some count) = nat_le 1 count && nat_lt count (2 ^ 32)

-- a width in bits: from 1 to the greatest
abbrev pub is_width : Option ℕ → Bool
is_width None = false
is_width (Some n) = nat_le 1 n && nat_le n WIDTH_MAX

-- a bit of a width
abbrev pub is_bit : Option ℕ → Bool
is_bit None = false
is_bit (Some k) = nat_lt k WIDTH_MAX

-- a seed: a number below 2^64
abbrev pub is_seed : Option ℕ → Bool
is_seed None = false
is_seed (Some seed) = nat_lt seed (2 ^ 64)

-- the number that was read; what is refused before it is asked for counts as 0
abbrev pub number_or_zero : Option ℕ → ℕ
number_or_zero number = unwrap_or number 0

-- the name of an operand's object
abbrev pub name_of : Written → List ℕ
name_of (Whole name) = name
name_of (Bit name k) = name
name_of (Bits name low high) = name

-- the name of the object has 1 to 16 bytes
abbrev pub has_name : Written → Bool
has_name place = fits_name (name_of place)

-- the part has a bit: LO is below HI, and HI is a width
abbrev pub has_bits : Written → Bool
has_bits (Whole name) = true
has_bits (Bit name k) = is_bit k
has_bits (Bits name low high) = is_bit low && (is_width high
    && nat_lt (number_or_zero low) (number_or_zero high))

-- an object as a whole
abbrev pub whole : List ℕ → Place
whole name = record { name = name; part = None }

-- so many bits of an object, from the bit low on
abbrev pub part_of : List ℕ → ℕ → ℕ → Place
part_of name low size = record { name = name; part = Some (record { low = low; size = size }) }

-- the operand that is meant
abbrev pub place_of : Written → Place
place_of (Whole name) = whole name
place_of (Bit name k) = part_of name (number_or_zero k) 1
place_of (Bits name low high) = part_of name (number_or_zero low)
    (number_or_zero high - number_or_zero low)

-- what a line says, turned into something else; its fault stays
abbrev pub result_map : {A B : Type 0} → (A → B) → Result A ScriptKind → Result B ScriptKind
result_map f (Ok x) = Ok (f x)
result_map f (Err kind) = Err kind

-- what is meant, if its names and then its numbers are right
abbrev pub checked : {A : Type 0} → Bool → Bool → A → Result A ScriptKind
checked names numbers meant = if not names then Err BadName
    else (if not numbers then Err BadNumber else Ok meant)

-- `trsp_init` with the name of an object, its number of elements and its width
abbrev pub init_of : List Written → List (Option ℕ) → Result Instruction ScriptKind
init_of (Whole name ∷ []) (count ∷ n ∷ []) = checked (fits_name name) (is_count count
    && is_width n) (Init name (number_or_zero count) (number_or_zero n))
init_of places numbers = Err Syntax

-- one to five operands after the first
abbrev pub bbop_of : List ℕ → List Written → List (Option ℕ) → Result Instruction ScriptKind
bbop_of op (dst ∷ src ∷ srcs) (count ∷ n ∷ []) =
    if nat_lt 4 (length srcs) then Err Syntax
    else checked (fits_name op && list_all has_name (dst ∷ src ∷ srcs))
    (list_all has_bits (dst ∷ src ∷ srcs) && (is_count count && is_width n))
    (Bbop op (place_of dst) (map place_of (src ∷ srcs)) (number_or_zero count) (number_or_zero n))
bbop_of op places numbers = Err Syntax

-- `load` with an operand and one or more values, whose width and number the machine looks at
abbrev pub load_of : List Written → List (Option ℕ) → Result Instruction ScriptKind
load_of (place ∷ []) (number ∷ numbers) = checked (has_name place)
    (has_bits place && list_all is_some (number ∷ numbers))
    (Load (place_of place) (map number_or_zero (number ∷ numbers)))
load_of places numbers = Err Syntax

-- `fill` with an operand and one value, whose width the machine looks at
abbrev pub fill_of : List Written → List (Option ℕ) → Result Instruction ScriptKind
fill_of (place ∷ []) (number ∷ []) = checked (has_name place) (has_bits place && is_some number)
    (Fill (place_of place) (number_or_zero number))
fill_of places numbers = Err Syntax

-- one operand and nothing else
abbrev pub print_of : List Written → List (Option ℕ) → Result Instruction ScriptKind
print_of (place ∷ []) [] = checked (has_name place) (has_bits place) (Print (place_of place))
print_of places numbers = Err Syntax

-- one name and nothing else
abbrev pub free_of : List Written → List (Option ℕ) → Result Instruction ScriptKind
free_of (Whole name ∷ []) [] = checked (fits_name name) true (Free name)
free_of places numbers = Err Syntax

-- an order by the words of a generator, begun with this seed
abbrev pub seed_of : Option ℕ → Result Instruction ScriptKind
seed_of seed = if is_seed seed then Ok (Order (Seed (number_or_zero seed))) else Err BadNumber

-- which order in force a line asks for
abbrev pub order_of : List Word → Result Instruction ScriptKind
order_of (Name word ∷ []) =
    if bytes_eq word (codes "in") then Ok (Order Forward)
    else (if bytes_eq word (codes "turns") then Ok (Order Turns) else Err Syntax)
order_of (Name word ∷ Number seed ∷ []) = if bytes_eq word (codes "seed") then seed_of seed
    else Err Syntax
order_of words = Err Syntax

-- what a line's first name says that it is
abbrev pub verb_of : List ℕ → Option Verb
verb_of head =
    if bytes_eq head (codes "bbop_trsp_init") then Some verb.Init
    else (if starts_with nat_eq head (codes "bbop_") then Some verb.Bbop
    else (if bytes_eq head (codes "load") then Some verb.Load
    else (if bytes_eq head (codes "fill") then Some verb.Fill
    else (if bytes_eq head (codes "print") then Some verb.Print
    else (if bytes_eq head (codes "free") then Some verb.Free
    else None)))))

-- what such a line says, with these operands
abbrev pub of_operands : List ℕ → Verb → Operands → Result Instruction ScriptKind
of_operands head verb.Init o = init_of o.places o.numbers
of_operands head verb.Bbop o = bbop_of (drop 5 head) o.places o.numbers
of_operands head verb.Load o = load_of o.places o.numbers
of_operands head verb.Fill o = fill_of o.places o.numbers
of_operands head verb.Print o = print_of o.places o.numbers
of_operands head verb.Free o = free_of o.places o.numbers

-- what a line says whose first name is no operation's
abbrev pub of_verb : List ℕ → Option Verb → Option Operands → Result Instruction ScriptKind
of_verb head (Some v) (Some o) = of_operands head v o
of_verb head (Some v) None = Err Syntax
of_verb head None o = Err Syntax

-- what a line says whose first token is this name
abbrev pub instruction_of : List ℕ → List Word → Result Instruction ScriptKind
instruction_of head words = if bytes_eq head (codes "order") then order_of words
    else of_verb head (verb_of head) (operands_of words)

-- what a line says by its tokens: a line without any says nothing
abbrev pub of_words : Option (List Word) → Result (Option Instruction) ScriptKind
of_words None = Err Lex
of_words (Some []) = Ok None
of_words (Some (Name head ∷ words)) = result_map Some (instruction_of head words)
of_words (Some words) = Err Syntax

-- what a line says: an instruction, or nothing where it has no token
abbrev pub line_of : List ℕ → Result (Option Instruction) ScriptKind
line_of line = of_words (words_in (items_of line))
