-- What an operation means.
use Rattle.std.specs.Prelude.{ℕ, ◌<◌, ◌^◌, zero, suc, Bool, true, false, not, ◌&&◌, ◌||◌, List, []}
use Rattle.std.specs.Prelude.{◌∷◌, ◌++◌, map, fold, replicate, bytes_eq, slice_index_or, slice_set}
use Rattle.std.specs.Prelude.{unwrap_or, Option, Some, None, if◌then◌else◌}
use Rattle.std.specs.List.{AllByRecursion}
use Rattle.op_text.specs.declared.tree.Kind.{Kind}
use Rattle.op_text.specs.declared.tree.Kind.TheVariants.{Word, Bit}
use Rattle.op_text.specs.declared.tree.Param.{Param}
use Rattle.op_text.specs.declared.tree.State.{State}
use Rattle.op_text.specs.declared.word_ops.WordOp.{WordOp}
use Rattle.op_text.specs.Language.{Term, Nought, Unity, Named, Negation, Conjunction, Disjunction}
use Rattle.op_text.specs.Language.{Parity, Majority, Equation, Block, Statement, Compute, Visit}
use Rattle.op_text.specs.Language.{Operation, result_names}
use Rattle.op_text.specs.Values.{value, bits, differ, majority, op_value, second_value}
use Rattle.op_text.specs.WordOps.{forms, filled, second_gives}

-- the value of an expression, where its names have these values
abbrev pub term_bit : (List ℕ → Bool) → Term → Bool
term_bit r Nought = false
term_bit r Unity = true
term_bit r (Named name) = r name
term_bit r (Negation a) = not (term_bit r a)
term_bit r (Conjunction a b) = term_bit r a && term_bit r b
term_bit r (Disjunction a b) = term_bit r a || term_bit r b
term_bit r (Parity a b) = differ (term_bit r a) (term_bit r b)
term_bit r (Majority a b c) = majority (term_bit r a) (term_bit r b) (term_bit r c)

-- what a name holds: n bits for a word, the lowest first, and one for a bit
pub record NameValue : Type 0 where
  pub kind : Kind
  pub bits : List Bool

-- how many bits, and so how many rows of a bank, a value takes at width n
abbrev pub width : ℕ → Kind → ℕ
width n Word = n
width n Bit = 1

-- a number held at width n; a bit holds its lowest bit
abbrev pub holding : ℕ → Kind → ℕ → NameValue
holding n k v = record { kind = k; bits = bits v (width n k) }

-- the number that the held bits spell
abbrev pub number : NameValue → ℕ
number h = value h.bits

-- before anything is set each name holds the bit 0
abbrev pub holds_nothing : List ℕ → NameValue
holds_nothing name = record { kind = Bit; bits = false ∷ [] }

-- the names, but this one now has another value
abbrev pub changed : {V : Type 0} → (List ℕ → V) → List ℕ → V → List ℕ → V
changed names name v = λ n. if bytes_eq n name then v else names n

-- the bit that is read at a position
abbrev pub bit_read : ℕ → NameValue → Bool
bit_read i h = elim h.kind [
  | Word ↦ slice_index_or h.bits i false
  | Bit ↦ slice_index_or h.bits 0 false
]

-- one bit of a word is set, or a bit's only one
abbrev pub bit_written : ℕ → NameValue → Bool → NameValue
bit_written i h b = record h { bits = elim h.kind [ Word ↦ slice_set h.bits i b | Bit ↦ b ∷ [] ] }

-- each let names its expression's value, for those after it
abbrev pub with_lets : (List ℕ → Bool) → List Equation → List ℕ → Bool
with_lets r [] = r
with_lets r (e ∷ es) = with_lets (changed r e.name (term_bit r e.value)) es

-- the assigned names, where all right sides are valued on r
abbrev pub assigned : (List ℕ → Bool) → ℕ → (List ℕ → NameValue) → List Equation → List ℕ
    → NameValue
assigned r i names [] = names
assigned r i names (e ∷ es) =
    assigned r i (changed names e.name (bit_written i (names e.name) (term_bit r e.value))) es

-- one position of a block
abbrev pub visited : Block → (List ℕ → NameValue) → ℕ → List ℕ → NameValue
visited block names i = assigned (with_lets (λ n. bit_read i (names n)) block.lets) i names
    block.assigns

-- the positions 0 to n - 1, the lowest first, as a carry goes
abbrev pub upwards : ℕ → List ℕ
upwards zero = []
upwards (suc n) = upwards n ++ n ∷ []

-- the positions n - 1 to 0, the highest first, as a comparison or a division goes
abbrev pub downwards : ℕ → List ℕ
downwards zero = []
downwards (suc n) = n ∷ downwards n

-- the order in which a block visits the bits of its words
abbrev pub positions : Bool → ℕ → List ℕ
positions down n = if down then downwards n else upwards n

-- before the first position: the assigned words are blank, and the states have their starts
abbrev pub with_blanks : ℕ → (List ℕ → NameValue) → List Equation → List ℕ → NameValue
with_blanks n names [] = names
with_blanks n names (e ∷ es) =
    with_blanks n (changed names e.name (record { kind = Word; bits = replicate n false })) es

-- each state begins with its start, a bit
abbrev pub with_states : (List ℕ → NameValue) → List State → List ℕ → NameValue
with_states names [] = names
with_states names (s ∷ ss) =
    with_states (changed names s.name (record { kind = Bit; bits = s.start ∷ [] })) ss

-- a block: starts and blank targets first, and then each position in the block's order
abbrev pub after_block : ℕ → Block → (List ℕ → NameValue) → List ℕ → NameValue
after_block n block names =
    fold (visited block) (with_states (with_blanks n names block.assigns) block.states)
    (positions block.down n)

-- the width of an operation's arguments, which are all words or all bits but for the third
abbrev pub args_width : ℕ → List NameValue → ℕ
args_width n [] = n
args_width n (h ∷ hs) = width n h.kind

-- what a word statement's target is given: the operation's value, in the kind of the form that the
-- arguments fill
abbrev pub computed : ℕ → WordOp → List NameValue → NameValue
computed n p args =
    holding n (unwrap_or (filled (forms p) (map (λ h. h.kind) args)) Word)
    (op_value p (args_width n args) (map number args))

-- what the second target is given, where there is one
abbrev pub second_computed : ℕ → WordOp → List NameValue → NameValue
second_computed n p args =
    holding n (second_gives p) (second_value p (args_width n args) (map number args))

-- the names, but the second target, if there is one, now has this value
abbrev pub with_second : (List ℕ → NameValue) → Option (List ℕ) → NameValue → List ℕ → NameValue
with_second names None h = names
with_second names (Some name) h = changed names name h

-- what the names hold after a word operation or a serial block
abbrev pub after_statement : ℕ → (List ℕ → NameValue) → Statement → List ℕ → NameValue
after_statement n names (Compute target second p args) =
    with_second (changed names target (computed n p (map names args))) second
    (second_computed n p (map names args))
after_statement n names (Visit block) = after_block n block names

-- the sources
abbrev pub with_sources : ℕ → (List ℕ → NameValue) → List Param → List ℕ → List ℕ → NameValue
with_sources n names [] values = names
with_sources n names (p ∷ ps) [] = names
with_sources n names (p ∷ ps) (v ∷ values) = with_sources n
    (changed names p.name (holding n p.kind v)) ps values

-- the names after these statements
abbrev pub after_body : ℕ → List Statement → (List ℕ → NameValue) → List ℕ → NameValue
after_body n body names = fold (after_statement n) names body

-- what names hold after an op, from the sources' numbers
abbrev pub after_op : Operation → ℕ → List ℕ → List ℕ → NameValue
after_op op n values = after_body n op.body (with_sources n holds_nothing op.params values)

-- what the one or two results hold
abbrev pub outcomes : Operation → ℕ → List ℕ → List NameValue
outcomes op n values = map (after_op op n values) (result_names op)

-- the results' numbers
abbrev pub meaning : Operation → ℕ → List ℕ → List ℕ
meaning op n values = map number (outcomes op n values)

-- Each number of a meaning is below 2 ^ n where the result is a word, and below 2 where it is a
-- bit.
abbrev pub MeaningFits : Type 0
MeaningFits = (op : Operation) (n : ℕ) (values : List ℕ)
    → AllByRecursion (λ (h : NameValue). number h < 2 ^ width n h.kind) (outcomes op n values)
