-- The texts of the grammar, whatever their names are and however many parts they have. Each
-- definition gives the terminals of a part in front of those that follow it.
use Rattle.std.specs.Prelude.{◌≡◌, Bool, true, false, List, [], ◌∷◌, Option, Some, None}
use Rattle.op_text.specs.declared.terminal.Terminal.{Terminal}
use Rattle.op_text.specs.declared.terminal.Terminal.TheVariants as t
use Rattle.op_text.specs.declared.terminal.Spelling.{Spelling}
use Rattle.op_text.specs.declared.terminal.Spelling.TheVariants as sp
use Rattle.op_text.specs.declared.tree.Kind.{Kind}
use Rattle.op_text.specs.declared.tree.Kind.TheVariants.{Word, Bit}

mutual
  -- a value: a constant, a name, or a gate with its arguments
  pub data Tree : Type 0 where
    Nought : Tree
    Unity : Tree
    Leaf : Spelling → Tree
    Call : Spelling → Tree → Trees → Tree

  -- the arguments after the first
  pub data Trees : Type 0 where
    Last : Trees
    Then : Tree → Trees → Trees

-- a source or a result in a text of the grammar
pub record ParamTree : Type 0 where
  pub name : Spelling
  pub kind : Kind

-- a state with its start in a text of the grammar
pub record StateTree : Type 0 where
  pub name : Spelling
  pub start : Bool

-- a let or an assignment in a text of the grammar
pub record EquationTree : Type 0 where
  pub name : Spelling
  pub value : Tree

-- the word that begins a block
abbrev pub is_serial : Spelling → Bool
is_serial sp.Serial = true
is_serial n = false

-- the word that begins a let
abbrev pub is_let : Spelling → Bool
is_let sp.Let = true
is_let n = false

-- a statement's target is not the word "serial", and no "let" is the target of a block's first
-- assignment
pub record WordTree : Type 0 where
  pub target : Spelling
  pub free : is_serial target ≡ false
  pub second : Option Spelling
  pub operation : Spelling
  pub args : List Spelling

-- a block of the grammar: at least one assignment, the first of which does not begin with "let"
pub record BlockTree : Type 0 where
  pub down : Bool
  pub states : List StateTree
  pub lets : List EquationTree
  pub first : EquationTree
  pub free : is_let first.name ≡ false
  pub more : List EquationTree

-- a statement of the grammar
pub data StatementTree : Type 0 where
  Compute : WordTree → StatementTree
  Visit : BlockTree → StatementTree

-- an op of the grammar: at least one source and one statement
pub record OpTree : Type 0 where
  pub name : Spelling
  pub source : ParamTree
  pub sources : List ParamTree
  pub result : ParamTree
  pub second : Option ParamTree
  pub statement : StatementTree
  pub statements : List StatementTree

abbrev mutual
  pub value_text : Tree → List Terminal → List Terminal
  value_text Nought rest = t.Zero ∷ rest
  value_text Unity rest = t.One ∷ rest
  value_text (Leaf n) rest = t.Name n ∷ rest
  value_text (Call n a r) rest = t.Name n ∷ t.Opens ∷ value_text a (values_text r rest)

  pub values_text : Trees → List Terminal → List Terminal
  values_text Last rest = t.Closes ∷ rest
  values_text (Then a r) rest = t.Comma ∷ value_text a (values_text r rest)

-- parts with a comma before each
abbrev pub after_commas : {A : Type 0} → (A → List Terminal → List Terminal) → List A
    → List Terminal → List Terminal
after_commas text [] rest = rest
after_commas text (a ∷ more) rest = t.Comma ∷ text a (after_commas text more rest)

-- parts with commas between them
abbrev pub between_commas : {A : Type 0} → (A → List Terminal → List Terminal) → List A
    → List Terminal → List Terminal
between_commas text [] rest = rest
between_commas text (a ∷ more) rest = text a (after_commas text more rest)

-- a part that may be there, with a comma before it
abbrev pub after_comma : {A : Type 0} → (A → List Terminal → List Terminal) → Option A
    → List Terminal → List Terminal
after_comma text None rest = rest
after_comma text (Some a) rest = t.Comma ∷ text a rest

-- parts one after the other
abbrev pub in_turn : {A : Type 0} → (A → List Terminal → List Terminal) → List A → List Terminal
    → List Terminal
in_turn text [] rest = rest
in_turn text (a ∷ more) rest = text a (in_turn text more rest)

-- the word of a kind
abbrev pub kind_word : Kind → Terminal
kind_word Word = t.Name sp.Word
kind_word Bit = t.Name sp.Bit

-- the word of a direction
abbrev pub direction_word : Bool → Terminal
direction_word false = t.Name sp.Up
direction_word true = t.Name sp.Down

-- the digit of a start
abbrev pub start_word : Bool → Terminal
start_word false = t.Zero
start_word true = t.One

-- a name
abbrev pub name_text : Spelling → List Terminal → List Terminal
name_text n rest = t.Name n ∷ rest

-- a source or a result with its kind
abbrev pub param_text : ParamTree → List Terminal → List Terminal
param_text p rest = t.Name p.name ∷ t.Colon ∷ kind_word p.kind ∷ rest

-- a state with its start
abbrev pub state_text : StateTree → List Terminal → List Terminal
state_text s rest = t.Name s.name ∷ t.Equals ∷ start_word s.start ∷ rest

-- a name, its value and the ";" that ends it
abbrev pub assign_text : EquationTree → List Terminal → List Terminal
assign_text e rest = t.Name e.name ∷ t.Equals ∷ value_text e.value (t.Semi ∷ rest)

-- a let of a block
abbrev pub let_text : EquationTree → List Terminal → List Terminal
let_text e rest = t.Name sp.Let ∷ assign_text e rest

-- a word statement or a whole block
abbrev pub statement_text : StatementTree → List Terminal → List Terminal
statement_text (Compute w) rest =
    t.Name w.target ∷ after_comma name_text w.second (t.Equals ∷ t.Name w.operation ∷ t.Opens
    ∷ between_commas name_text w.args (t.Closes ∷ t.Semi ∷ rest))
statement_text (Visit b) rest =
    t.Name sp.Serial ∷ direction_word b.down ∷ t.Opens
    ∷ between_commas state_text b.states (t.Closes ∷ t.Begins
    ∷ in_turn let_text b.lets (assign_text b.first
    (in_turn assign_text b.more (t.Finishes ∷ rest))))

-- an op from its first word to its "}"
abbrev pub op_text : OpTree → List Terminal → List Terminal
op_text op rest =
    t.Name sp.Op ∷ t.Name op.name ∷ t.Opens ∷ param_text op.source
    (after_commas param_text op.sources (t.Closes
    ∷ t.Arrow ∷ param_text op.result (after_comma param_text op.second (t.Begins
    ∷ statement_text op.statement (in_turn statement_text op.statements (t.Finishes ∷ rest))))))

-- a text of the grammar
abbrev pub text_of : List OpTree → List Terminal
text_of ops = in_turn op_text ops []

-- terminals are a whole text of the grammar
abbrev pub IsText : List Terminal → Type 0
IsText ts = (ops : List OpTree) × (ts ≡ text_of ops)
