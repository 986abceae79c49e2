-- What the parts of a reader answer, in words of what a line says. Want of memory may come in place
-- of each.
use Rattle.std.specs.Prelude.{◌≡◌, ℕ, Bool, true, false, List, [], ◌∷◌, ◌++◌, Option, Some, None}
use Rattle.std.specs.Prelude.{Result, Ok, Err, Vec, map, length, ◌<◌}
use Rattle.std.specs.Global.{Global}
use Rattle.std.specs.Option.{option_map, is_some}
use Rattle.std.specs.List.{list_all}
use Rattle.text_lex.specs.Lexical.{items_of}
use Rattle.bbop_isa.specs.declared.words.Word.{Word as Kept}
use Rattle.bbop_isa.specs.declared.terms.Written.{Written as KeptWritten}
use Rattle.bbop_isa.specs.declared.terms.Written.TheVariants as written
use Rattle.bbop_isa.specs.declared.terms.Term.{Term as KeptTerm}
use Rattle.bbop_isa.specs.declared.terms.Term.TheVariants as term
use Rattle.bbop_isa.specs.declared.operands.Operands.{Operands as KeptOperands}
use Rattle.bbop_isa.specs.declared.instr.Instr.{Instr}
use Rattle.bbop_isa.specs.declared.instr.ScriptFault.{ScriptFault}
use Rattle.bbop_isa.specs.declared.instr.ScriptKind.{ScriptKind}
use Rattle.bbop_isa.specs.declared.instr.ScriptKind.TheVariants.{Lex, BadNumber}
use Rattle.bbop_isa.specs.declared.instr.LineError.{LineError}
use Rattle.bbop_isa.specs.declared.instr.LineError.TheVariants as line_no
use Rattle.bbop_isa.specs.Words.{Word, Number, Open, Colon, Close, words_in, word_view}
use Rattle.bbop_isa.specs.Operands.{Written, Whole, Bit, Bits, Term, Named, Value, Break, Stray}
use Rattle.bbop_isa.specs.Operands.{Operands, operands_in, operands_of}
use Rattle.bbop_isa.specs.Forms.{Instruction, number_or_zero, view_of, line_of}
use Rattle.bbop_isa.specs.Script.{go_on}

-- The answer on a line is what was meant.
abbrev pub Gives : {A B : Type 0} → (B → A) → Result A ScriptKind → Result B LineError → Type 0
Gives view meant (Ok b) = meant ≡ Ok (view b)
Gives view meant (Err (line_no.Bad kind)) = meant ≡ Err kind
Gives view meant (Err line_no.NoMemory) = Unit {0}

-- The words are those of the line, or a byte of it starts no token.
abbrev pub WordsOf : List ℕ → Result (Vec Kept Global) LineError → Type 0
WordsOf line (Ok words) = words_in (items_of line) ≡ Some (map word_view words.items)
WordsOf line (Err (line_no.Bad kind)) = (words_in (items_of line) ≡ None) × (kind ≡ Lex)
WordsOf line (Err line_no.NoMemory) = Unit {0}

-- the number of a bit in brackets, where words begin so
abbrev pub bit_in : List Word → Option (Option ℕ)
bit_in (Open ∷ Number k ∷ Close ∷ words) = Some k
bit_in words = None

-- the ends of bits in brackets, where words begin so
abbrev pub bits_in : List Word → Option (Option ℕ × Option ℕ)
bits_in (Open ∷ Number low ∷ Colon ∷ Number high ∷ Close ∷ words) = Some (low, high)
bits_in words = None

-- an operand without where its name lies in memory
abbrev pub written_view : KeptWritten → Written
written_view (written.Whole name) = Whole name.now
written_view (written.Bit name k) = Bit name.now k
written_view (written.Bits name low high) = Bits name.now low high

-- a term without where it lies in memory
abbrev pub term_view : KeptTerm → Term
term_view (term.Named place) = Named (written_view place)
term_view (term.Value number) = Value number
term_view term.Break = Break
term_view term.Stray = Stray

-- the operands that the parser holds, without where its lists lie in memory
abbrev pub operands_view : KeptOperands → Operands
operands_view o = record { places = map written_view o.places.items; numbers = o.numbers.items }

-- operands after these: no object after a number
abbrev pub joined : List Written → List (Option ℕ) → List Written → List (Option ℕ)
    → Option Operands
joined places [] more numbers = Some (record { places = places ++ more; numbers = numbers })
joined places (n ∷ ns) [] numbers = Some (record {
  places = places;
  numbers = (n ∷ ns) ++ numbers;
})
joined places (n ∷ ns) (m ∷ more) numbers = None

-- the operands of the rest of a line after those read so far
abbrev pub joined_after : List Written → List (Option ℕ) → Option Operands → Option Operands
joined_after places numbers None = None
joined_after places numbers (Some o) = joined places numbers o.places o.numbers

-- what the operands so far and the terms that are left come to, where the next is to be a comma or
-- not
abbrev pub left : Bool → List Written → List (Option ℕ) → List Term → Option Operands
left false places numbers terms = joined_after places numbers (operands_in terms)
left true places numbers [] = Some (record { places = places; numbers = numbers })
left true places numbers (Break ∷ terms) = joined_after places numbers (operands_in terms)
left true places numbers (Named place ∷ terms) = None
left true places numbers (Value number ∷ terms) = None
left true places numbers (Stray ∷ terms) = None

-- what the parser's operands and the terms that are left come to
abbrev pub left_in : KeptOperands → List Term → Option Operands
left_in o terms = left o.at_comma (map written_view o.places.items) o.numbers.items terms

-- One term was taken: what the terms come to is as before. Or it was not: they come to nothing.
abbrev pub Takes : KeptOperands → Term → Result Bool LineError → KeptOperands → Type 0
Takes old term (Ok true) new = (terms : List Term) → left_in old (term ∷ terms) ≡ left_in new terms
Takes old term (Ok false) new = (terms : List Term) → left_in old (term ∷ terms) ≡ None
Takes old term (Err (line_no.Bad kind)) new = ⊥
Takes old term (Err line_no.NoMemory) new = Unit {0}

-- the operands with one term more, where it may stand there
abbrev pub takes : List Written → List (Option ℕ) → Term → Option Operands
takes places [] (Named place) = Some (record { places = places ++ place ∷ []; numbers = [] })
takes places (n ∷ ns) (Named place) = None
takes places numbers (Value number) = Some (record {
  places = places;
  numbers = numbers ++ number
      ∷ [];
})
takes places numbers Break = None
takes places numbers Stray = None

-- One term was added to the operands, or it may not stand there.
abbrev pub Pushes : KeptOperands → Term → Result Bool LineError → KeptOperands → Type 0
Pushes old term (Ok true) new = takes (map written_view old.places.items) old.numbers.items term
    ≡ Some (operands_view new)
Pushes old term (Ok false) new = takes (map written_view old.places.items) old.numbers.items term
    ≡ None
Pushes old term (Err (line_no.Bad kind)) new = ⊥
Pushes old term (Err line_no.NoMemory) new = Unit {0}

-- The operands are those that the words are, if they are some.
abbrev pub OperandsOf : List Kept → Result (Option KeptOperands) LineError → Type 0
OperandsOf words (Ok o) = operands_of (map word_view words) ≡ option_map operands_view o
OperandsOf words (Err (line_no.Bad kind)) = ⊥
OperandsOf words (Err line_no.NoMemory) = Unit {0}

-- the values, where all are below 2^128
abbrev pub ValuesOf : List (Option ℕ) → Result (Vec ℕ Global) LineError → Type 0
ValuesOf numbers (Ok values) = (list_all is_some numbers ≡ true)
    × (map number_or_zero numbers ≡ values.items)
ValuesOf numbers (Err (line_no.Bad kind)) = (list_all is_some numbers ≡ false) × (kind ≡ BadNumber)
ValuesOf numbers (Err line_no.NoMemory) = Unit {0}

-- these are not two to six
abbrev pub IsNoTarget : {A : Type 0} → List A → Type 0
IsNoTarget [] = Unit {0}
IsNoTarget (dst ∷ []) = Unit {0}
IsNoTarget (dst ∷ src ∷ srcs) = 4 < length srcs

-- the script, after these instructions
abbrev pub script_after : List Instruction → Result (List Instruction) ScriptFault
    → Result (List Instruction) ScriptFault
script_after before (Ok script) = Ok (before ++ script)
script_after before (Err fault) = Err fault

-- The instruction of the line was added, if it has one, so that the script of this line and others
-- comes to the same. Or the line is refused.
abbrev pub AddsLine : List ℕ → List Instr → Result (Unit {0}) LineError → List Instr → Type 0
AddsLine line old (Ok u) new = (number : ℕ) (rest : Result (List Instruction) ScriptFault)
    → script_after (map view_of old) (go_on number (line_of line) rest)
    ≡ script_after (map view_of new) rest
AddsLine line old (Err (line_no.Bad kind)) new = line_of line ≡ Err kind
AddsLine line old (Err line_no.NoMemory) new = Unit {0}
