-- The one canonical text of ops.
use Rattle.std.specs.Prelude.{ℕ, List, [], ◌∷◌, ◌++◌, codes, Option}
use Rattle.std.specs.Option.{option_to_list}
use Rattle.std.specs.List.{flat_map}
use Rattle.op_text.specs.declared.word_ops.WordOp.{WordOp}
use Rattle.op_text.specs.declared.tree.Param.{Param}
use Rattle.op_text.specs.declared.tree.State.{State}
use Rattle.op_text.specs.WordOps.{op_text}
use Rattle.op_text.specs.Spelling.{kind_text, direction_text, start_text}
use Rattle.op_text.specs.Language.{Term, Nought, Unity, Named, Negation, Conjunction, Disjunction}
use Rattle.op_text.specs.Language.{Parity, Majority, Equation, Block, Statement, Compute, Visit}
use Rattle.op_text.specs.Language.{Operation, results}

-- a comma, a blank and a part
abbrev pub after_comma : {A : Type 0} → (A → List ℕ) → A → List ℕ
after_comma part a = codes ", " ++ part a

-- parts with commas between them
abbrev pub listed : {A : Type 0} → (A → List ℕ) → List A → List ℕ
listed part [] = []
listed part (a ∷ more) = part a ++ flat_map (after_comma part) more

-- a value on one line, with a blank after each comma
abbrev pub value_text : Term → List ℕ
value_text Nought = codes "0"
value_text Unity = codes "1"
value_text (Named name) = name
value_text (Negation a) = codes "not(" ++ value_text a ++ codes ")"
value_text (Conjunction a b) = codes "and(" ++ value_text a ++ codes ", " ++ value_text b
    ++ codes ")"
value_text (Disjunction a b) = codes "or(" ++ value_text a ++ codes ", " ++ value_text b
    ++ codes ")"
value_text (Parity a b) = codes "xor(" ++ value_text a ++ codes ", " ++ value_text b ++ codes ")"
value_text (Majority a b c) = codes "maj(" ++ value_text a ++ codes ", " ++ value_text b
    ++ codes ", " ++ value_text c ++ codes ")"

-- a name, as it is spelled
abbrev pub spelled : List ℕ → List ℕ
spelled name = name

-- a source or a result with its kind
abbrev pub param_text : Param → List ℕ
param_text p = p.name ++ codes ": " ++ kind_text p.kind

-- a state with its start
abbrev pub state_text : State → List ℕ
state_text s = s.name ++ codes " = " ++ start_text s.start

-- a name and its value, which ";" ends
abbrev pub equation_text : Equation → List ℕ
equation_text e = e.name ++ codes " = " ++ value_text e.value ++ codes ";"

-- a let of a block
abbrev pub let_text : Equation → List ℕ
let_text e = codes "let " ++ equation_text e

-- a word statement on one line
abbrev pub word_text : List ℕ → Option (List ℕ) → WordOp → List (List ℕ) → List ℕ
word_text target second p args = listed spelled (target ∷ option_to_list second) ++ codes " = "
    ++ op_text p ++ codes "(" ++ listed spelled args ++ codes ");"

-- the line that begins a block
abbrev pub block_head : Block → List ℕ
block_head b = codes "serial " ++ direction_text b.down ++ codes " (" ++ listed state_text b.states
    ++ codes ") {"

-- the line that begins an op
abbrev pub op_head : Operation → List ℕ
op_head o = codes "op " ++ o.name ++ codes "(" ++ listed param_text o.params ++ codes ") -> "
    ++ listed param_text (results o) ++ codes " {"

-- a line: its indent, what stands on it, and a newline
abbrev pub line : List ℕ → List ℕ → List ℕ
line indent text = indent ++ text ++ 10 ∷ []

-- a statement stands two blanks deep, and the lines of a block four
abbrev pub statement_lines : Statement → List ℕ
statement_lines (Compute target second p args) =
    line (codes "  ") (word_text target second p args)
statement_lines (Visit b) =
    line (codes "  ") (block_head b) ++ flat_map (λ e. line (codes "    ") (let_text e)) b.lets
    ++ flat_map (λ e. line (codes "    ") (equation_text e)) b.assigns
    ++ line (codes "  ") (codes "}")

-- an op: its first line, its statements, and "}"
abbrev pub op_lines : Operation → List ℕ
op_lines o = line [] (op_head o) ++ flat_map statement_lines o.body ++ line [] (codes "}")

-- the lines of each op, without blank lines or comments
abbrev pub canonical_text : List Operation → List ℕ
canonical_text all = flat_map op_lines all
