-- Single tokens: what each is spelled by and what comes after it.
use Rattle.std.specs.Prelude.{ℕ, ◌-◌, Bool, true, false, List, [], ◌∷◌, Option, Some, None}
use Rattle.std.specs.Prelude.{codes}
use Rattle.op_text.specs.declared.wanted.Wanted.{Wanted}
use Rattle.op_text.specs.declared.wanted.Wanted.TheVariants as w
use Rattle.op_text.specs.declared.terminal.Terminal.{Terminal}
use Rattle.op_text.specs.declared.terminal.Terminal.TheVariants as t
use Rattle.op_text.specs.declared.terminal.Spelling.TheVariants as sp
use Rattle.op_text.specs.declared.gate.Gate.{Gate}
use Rattle.op_text.specs.declared.gate.Gate.TheVariants as gates
use Rattle.op_text.specs.declared.tree.Kind.{Kind}
use Rattle.op_text.specs.declared.tree.Kind.TheVariants.{Word, Bit}
use Rattle.op_text.specs.Language.{Term, Conjunction, Disjunction, Parity}
use Rattle.op_text.specs.Rules.{gate_arguments}
use Rattle.op_lang.specs.declared.pieces.Start.{Start}
use Rattle.op_lang.specs.declared.pieces.Start.TheVariants as start
use Rattle.op_lang.specs.declared.pieces.Leaf.{Leaf}
use Rattle.op_lang.specs.declared.pieces.Leaf.TheVariants as leaf

-- the symbols that one spelling fits
abbrev pub is_mark : Wanted → Bool
is_mark w.Open = true
is_mark w.Begin = true
is_mark w.Colon = true
is_mark w.Arrow = true
is_mark w.Equals = true
is_mark w.WordEnd = true
is_mark w.LetEnd = true
is_mark w.AssignEnd = true
is_mark w.GateOpen = true
is_mark wanted = false

-- how such a symbol is spelled
abbrev pub mark_text : Wanted → List ℕ
mark_text w.Open = codes "("
mark_text w.Begin = codes "{"
mark_text w.Colon = codes ":"
mark_text w.Arrow = codes "->"
mark_text w.Equals = codes "="
mark_text w.WordEnd = codes ";"
mark_text w.LetEnd = codes ";"
mark_text w.AssignEnd = codes ";"
mark_text w.GateOpen = codes "("
mark_text wanted = []

-- the symbols that a name fits and nothing else, with nothing after it
abbrev pub is_name : Wanted → Bool
is_name w.NewOp = true
is_name w.NewParam = true
is_name w.NewResult = true
is_name w.NewTarget = true
is_name w.ArgName = true
is_name w.StateName = true
is_name w.LetName = true
is_name wanted = false

-- the symbols that a name or the end of a list fits
abbrev pub is_name_or_end : Wanted → Bool
is_name_or_end w.Args = true
is_name_or_end w.States = true
is_name_or_end w.Assigns = true
is_name_or_end wanted = false

-- what is wanted after the first name of a list, or after the target of an assignment
abbrev pub after_name : Wanted → List Wanted
after_name w.Args = w.MoreArgs ∷ []
after_name w.States = w.Equals ∷ w.Start ∷ w.MoreStates ∷ []
after_name wanted = w.Equals ∷ w.Value ∷ w.AssignEnd ∷ w.Assigns ∷ []

-- what is wanted after a name, and nothing after the end of its list
abbrev pub after_name_or_end : Wanted → Option (List ℕ) → List Wanted
after_name_or_end wanted (Some name) = after_name wanted
after_name_or_end wanted None = []

-- the token that ends a list without names, or a block
abbrev pub end_text : Wanted → List ℕ
end_text w.Assigns = codes "}"
end_text wanted = codes ")"

-- the token that was read: the name, or the end
abbrev pub name_or_end : Wanted → Option (List ℕ) → List ℕ
name_or_end wanted (Some name) = name
name_or_end wanted None = end_text wanted

-- the symbols where a list goes on or ends
abbrev pub is_more : Wanted → Bool
is_more w.Params = true
is_more w.MoreArgs = true
is_more w.MoreStates = true
is_more wanted = false

-- what is wanted after a comma of a list
abbrev pub after_comma : Wanted → List Wanted
after_comma w.Params = w.NewParam ∷ w.Colon ∷ w.ParamKind ∷ w.Params ∷ []
after_comma w.MoreArgs = w.ArgName ∷ w.MoreArgs ∷ []
after_comma wanted = w.StateName ∷ w.Equals ∷ w.Start ∷ w.MoreStates ∷ []

-- what is wanted where a list goes on, and nothing where it ends
abbrev pub after_comma_or_close : Wanted → Bool → List Wanted
after_comma_or_close wanted true = after_comma wanted
after_comma_or_close wanted false = []

-- the token that was read: the list goes on, or ends
abbrev pub comma_or_close : Bool → List ℕ
comma_or_close true = codes ","
comma_or_close false = codes ")"

-- the symbols where a second result or a second target may stand
abbrev pub is_second : Wanted → Bool
is_second w.SecondResult = true
is_second w.SecondTarget = true
is_second wanted = false

-- what is wanted where a second result or target stands, and nothing where there is none
abbrev pub after_second : Wanted → Bool → List Wanted
after_second w.SecondResult true = w.NewResult ∷ w.Colon ∷ w.ResultKind ∷ w.Begin ∷ []
after_second wanted true = w.NewTarget ∷ w.Equals ∷ []
after_second wanted false = []

-- what ends the results or the targets where there is no second one
abbrev pub end_of_one : Wanted → List ℕ
end_of_one w.SecondResult = codes "{"
end_of_one wanted = codes "="

-- the token that was read: a second one stands, or there is none
abbrev pub comma_or_end : Wanted → Bool → List ℕ
comma_or_end wanted true = codes ","
comma_or_end wanted false = end_of_one wanted

-- the symbols where the word of a kind is wanted
abbrev pub is_kind : Wanted → Bool
is_kind w.ParamKind = true
is_kind w.ResultKind = true
is_kind wanted = false

-- the symbols where a statement begins
abbrev pub is_statement : Wanted → Bool
is_statement w.FirstStmt = true
is_statement w.Stmts = true
is_statement wanted = false

-- what a terminal tells, where one of its kind is wanted
abbrev pub kind_at : Terminal → Kind
kind_at (t.Name sp.Word) = Word
kind_at u = Bit

-- a name, and no symbol or digit
abbrev pub is_named : Terminal → Bool
is_named (t.Name n) = true
is_named u = false

-- the end of a body
abbrev pub is_finish : Terminal → Bool
is_finish t.Finishes = true
is_finish u = false

-- the word that begins a block
abbrev pub is_serial_word : Terminal → Bool
is_serial_word (t.Name sp.Serial) = true
is_serial_word u = false

-- the word that begins a let
abbrev pub is_let_word : Terminal → Bool
is_let_word (t.Name sp.Let) = true
is_let_word u = false

-- the direction of a block is downwards
abbrev pub is_down : Terminal → Bool
is_down (t.Name sp.Down) = true
is_down u = false

-- the digit 1, for a constant or a state's start
abbrev pub is_one : Terminal → Bool
is_one t.One = true
is_one u = false

-- a list goes on
abbrev pub is_comma : Terminal → Bool
is_comma t.Comma = true
is_comma u = false

-- after the first token of a statement
abbrev pub after_start : Start → List Wanted
after_start (start.Word name) = w.SecondTarget ∷ w.WordOpName ∷ w.Open ∷ w.Args ∷ w.WordEnd
    ∷ w.Stmts ∷ []
after_start start.Serial = w.Direction ∷ w.Open ∷ w.States ∷ w.Begin ∷ w.Lets ∷ w.Stmts ∷ []
after_start start.End = []

-- the token with which a statement was found to begin, or its body to end
abbrev pub start_spelled : Start → List ℕ
start_spelled (start.Word name) = name
start_spelled start.Serial = codes "serial"
start_spelled start.End = codes "}"

-- after the first token of a line: the target of the first assignment, or the word "let"
abbrev pub after_line : Option (List ℕ) → List Wanted
after_line (Some target) = w.Equals ∷ w.Value ∷ w.AssignEnd ∷ w.Assigns ∷ []
after_line None = w.LetName ∷ w.Equals ∷ w.Value ∷ w.LetEnd ∷ w.Lets ∷ []

-- the token with which a line of a block was found to begin
abbrev pub line_spelled : Option (List ℕ) → List ℕ
line_spelled (Some target) = target
line_spelled None = codes "let"

-- after the first token of a value
abbrev pub after_leaf : Leaf → List Wanted
after_leaf (leaf.Gate g) = w.GateOpen ∷ w.Value ∷ w.More ∷ []
after_leaf l = []

-- how a gate is spelled
abbrev pub gate_text : Gate → List ℕ
gate_text gates.Not = codes "not"
gate_text gates.And = codes "and"
gate_text gates.Or = codes "or"
gate_text gates.Xor = codes "xor"
gate_text gates.Maj = codes "maj"

-- the token with which a value was found to begin
abbrev pub leaf_spelled : Leaf → List ℕ
leaf_spelled leaf.Zero = codes "0"
leaf_spelled leaf.One = codes "1"
leaf_spelled (leaf.Read name) = name
leaf_spelled (leaf.Gate g) = gate_text g

-- the leaf of a constant
abbrev pub bit_leaf : Terminal → Leaf
bit_leaf t.One = leaf.One
bit_leaf u = leaf.Zero

-- a gate of two arguments
abbrev pub with_two : Gate → Term → Term → Term
with_two gates.And a b = Conjunction a b
with_two gates.Or a b = Disjunction a b
with_two g a b = Parity a b

-- the arguments that open gates lack after it
abbrev pub lacking : Leaf → List ℕ → List ℕ
lacking (leaf.Gate g) missing = (gate_arguments g - 1) ∷ missing
lacking l missing = missing
