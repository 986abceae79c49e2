-- What the grammar's steps accept is a text of the grammar.
use Rattle.std.proofs.Common.{◌≡◌, ℕ, zero, suc, ◌<◌, ◌≤◌, Bool, true, false, List, [], ◌∷◌, ◌++◌}
use Rattle.std.proofs.Common.{length, Option, Some, None, refl, ap, ◌∙◌, arith}
use Rattle.grammar.specs.Machine as machine
use Rattle.op_text.specs.declared.terminal.Terminal.{Terminal}
use Rattle.op_text.specs.declared.terminal.Terminal.TheVariants as t
use Rattle.op_text.specs.declared.terminal.Spelling.{Spelling}
use Rattle.op_text.specs.declared.terminal.Spelling.TheVariants as sp
use Rattle.op_text.specs.declared.tree.Kind.TheVariants.{Word, Bit}
use Rattle.op_text.specs.declared.wanted.Wanted.{Wanted}
use Rattle.op_text.specs.declared.wanted.Wanted.TheVariants.{Ops, NewOp, NewParam, ParamKind}
use Rattle.op_text.specs.declared.wanted.Wanted.TheVariants.{Params, NewResult, ResultKind}
use Rattle.op_text.specs.declared.wanted.Wanted.TheVariants.{FirstStmt, Stmts, WordOpName, Args}
use Rattle.op_text.specs.declared.wanted.Wanted.TheVariants.{MoreArgs, WordEnd, Direction}
use Rattle.op_text.specs.declared.wanted.Wanted.TheVariants.{States, MoreStates, Start}
use Rattle.op_text.specs.declared.wanted.Wanted.TheVariants.{Lets, LetEnd, AssignEnd}
use Rattle.op_text.specs.declared.wanted.Wanted.TheVariants.{Assigns, Value, More, Open, Begin}
use Rattle.op_text.specs.declared.wanted.Wanted.TheVariants.{Colon, Arrow, Equals}
use Rattle.op_text.specs.declared.wanted.Wanted.TheVariants.{SecondResult, SecondTarget}
use Rattle.op_text.specs.Grammar.{statement}
use Rattle.op_text.proofs.Allowed.{allowed}
use Rattle.op_text.specs.Trees.{Tree, Trees, Nought, Unity, Leaf, Call, Last, Then, ParamTree}
use Rattle.op_text.specs.Trees.{StateTree, EquationTree, StatementTree, Compute, Visit, OpTree}
use Rattle.op_text.specs.Trees.{is_serial, is_let, value_text, values_text, after_commas}
use Rattle.op_text.specs.Trees.{after_comma, between_commas, in_turn, direction_word}
use Rattle.op_text.specs.Trees.{start_word}
use Rattle.op_text.specs.Trees.{name_text, param_text, state_text, assign_text, let_text}
use Rattle.op_text.specs.Trees.{statement_text, op_text, IsText}

-- the rest of a text, where these are wanted
abbrev IsRest : List Wanted → List Terminal → Type 0
IsRest ws ts = allowed ws ts ≡ Some (Ops ∷ [])

-- what is read off the front of terminals
record Split (A : Type 0) (text : A → List Terminal → List Terminal) (ws : List Wanted)
    (ts : List Terminal) : Type 0 where
  tree : A
  rest : List Terminal
  is : ts ≡ text tree rest
  left : IsRest ws rest
  short : length rest < length ts

abbrev Reads : (A : Type 0) → (A → List Terminal → List Terminal) → Wanted → ℕ → Type 0
Reads A text w n = (ts : List Terminal) (ws : List Wanted) → length ts ≤ n → IsRest (w ∷ ws) ts
    → Split A text ws ts

split : {A : Type 0} {text : A → List Terminal → List Terminal} {ws : List Wanted}
    {ts : List Terminal} (a : A) (rest : List Terminal) → ts ≡ text a rest → IsRest ws rest
    → length rest < length ts → Split A text ws ts
split a rest is left short =
    record { tree = a; rest = rest; is = is; left = left; short = short }

-- a single terminal
abbrev mark : Terminal → Unit {0} → List Terminal → List Terminal
mark u x rest = u ∷ rest

abbrev Marks : Wanted → Terminal → Type 0
Marks w u = (ts : List Terminal) (ws : List Wanted) → IsRest (w ∷ ws) ts
    → Split (Unit {0}) (mark u) ws ts

begin_back : Marks Begin t.Begins
unfolding machine.allowed
begin_back (t.Begins ∷ ts) ws h = split tt ts refl h (omega arith)
begin_back _ ws h = cc

arrow_back : Marks Arrow t.Arrow
unfolding machine.allowed
arrow_back (t.Arrow ∷ ts) ws h = split tt ts refl h (omega arith)
arrow_back _ ws h = cc

word_end_back : Marks WordEnd t.Semi
unfolding machine.allowed
word_end_back (t.Semi ∷ ts) ws h = split tt ts refl h (omega arith)
word_end_back _ ws h = cc

let_end_back : Marks LetEnd t.Semi
unfolding machine.allowed
let_end_back (t.Semi ∷ ts) ws h = split tt ts refl h (omega arith)
let_end_back _ ws h = cc

assign_end_back : Marks AssignEnd t.Semi
unfolding machine.allowed
assign_end_back (t.Semi ∷ ts) ws h = split tt ts refl h (omega arith)
assign_end_back _ ws h = cc

-- a part, and what was read after it
chain : {A B : Type 0} {f : A → List Terminal → List Terminal} {g : B → List Terminal
    → List Terminal} {ws vs : List Wanted} {ts : List Terminal} (a : Split A f vs ts)
    (b : Split B g ws a.rest) → ts ≡ f a.tree (g b.tree b.rest)
chain {f = f} a b = a.is ∙ ap (f a.tree) b.is

mutual
  unfolding machine.allowed

  value_back : (n : ℕ) → Reads Tree value_text Value n
  value_back zero (u ∷ ts) ws le h = absurd (omega (arith, le))
  value_back (suc n) (t.Zero ∷ ts) ws le h = split Nought ts refl h (omega arith)
  value_back (suc n) (t.One ∷ ts) ws le h = split Unity ts refl h (omega arith)
  value_back (suc n) (t.Name r ∷ t.Opens ∷ ts) ws le h =
      let a = value_back n ts (More ∷ ws) (omega (arith, le)) h in
      let b = values_back n a.rest ws (omega (arith, le, a.short)) a.left in
      split (Call r a.tree b.tree) b.rest (ap (λ l. t.Name r ∷ t.Opens ∷ l) (chain a b)) b.left
      (omega (arith, a.short, b.short))
  value_back (suc n) (t.Name r ∷ ts) ws le h = split (Leaf r) ts refl h (omega arith)
  value_back n _ ws le h = cc

  values_back : (n : ℕ) → Reads Trees values_text More n
  values_back zero (u ∷ ts) ws le h = absurd (omega (arith, le))
  values_back (suc n) (t.Comma ∷ ts) ws le h =
      let a = value_back n ts (More ∷ ws) (omega (arith, le)) h in
      let b = values_back n a.rest ws (omega (arith, le, a.short)) a.left in
      split (Then a.tree b.tree) b.rest (ap (λ l. t.Comma ∷ l) (chain a b)) b.left
      (omega (arith, a.short, b.short))
  values_back (suc n) (t.Closes ∷ ts) ws le h = split Last ts refl h (omega arith)
  values_back n _ ws le h = cc

-- a source with its kind
param_back : (ts : List Terminal) (ws : List Wanted)
    → IsRest (NewParam ∷ Colon ∷ ParamKind ∷ ws) ts → Split ParamTree param_text ws ts
unfolding machine.allowed
param_back (t.Name x ∷ t.Colon ∷ t.Name sp.Word ∷ ts) ws h =
    split (record { name = x; kind = Word }) ts refl h (omega arith)
param_back (t.Name x ∷ t.Colon ∷ t.Name sp.Bit ∷ ts) ws h =
    split (record { name = x; kind = Bit }) ts refl h (omega arith)
param_back _ ws h = cc

-- a result with its kind
result_back : (ts : List Terminal) (ws : List Wanted)
    → IsRest (NewResult ∷ Colon ∷ ResultKind ∷ ws) ts → Split ParamTree param_text ws ts
unfolding machine.allowed
result_back (t.Name x ∷ t.Colon ∷ t.Name sp.Word ∷ ts) ws h =
    split (record { name = x; kind = Word }) ts refl h (omega arith)
result_back (t.Name x ∷ t.Colon ∷ t.Name sp.Bit ∷ ts) ws h =
    split (record { name = x; kind = Bit }) ts refl h (omega arith)
result_back _ ws h = cc

abbrev params_text : List ParamTree → List Terminal → List Terminal
params_text ps rest = after_commas param_text ps (t.Closes ∷ rest)

params_back : (n : ℕ) → Reads (List ParamTree) params_text Params n
unfolding machine.allowed
params_back zero (u ∷ ts) ws le h = absurd (omega (arith, le))
params_back (suc n) (t.Closes ∷ ts) ws le h = split [] ts refl h (omega arith)
params_back (suc n) (t.Comma ∷ ts) ws le h =
    let a = param_back ts (Params ∷ ws) h in
    let b = params_back n a.rest ws (omega (arith, le, a.short)) a.left in
    split (a.tree ∷ b.tree) b.rest (ap (λ l. t.Comma ∷ l) (chain a b)) b.left
    (omega (arith, a.short, b.short))
params_back n _ ws le h = cc

abbrev more_args_text : List Spelling → List Terminal → List Terminal
more_args_text ns rest = after_commas name_text ns (t.Closes ∷ rest)

abbrev args_text : List Spelling → List Terminal → List Terminal
args_text ns rest = between_commas name_text ns (t.Closes ∷ rest)

more_args_back : (n : ℕ) → Reads (List Spelling) more_args_text MoreArgs n
unfolding machine.allowed
more_args_back zero (u ∷ ts) ws le h = absurd (omega (arith, le))
more_args_back (suc n) (t.Closes ∷ ts) ws le h = split [] ts refl h (omega arith)
more_args_back (suc n) (t.Comma ∷ t.Name r ∷ ts) ws le h =
    let b = more_args_back n ts ws (omega (arith, le)) h in
    split (r ∷ b.tree) b.rest (ap (λ l. t.Comma ∷ t.Name r ∷ l) b.is) b.left
    (omega (arith, b.short))
more_args_back n _ ws le h = cc

args_back : (n : ℕ) → Reads (List Spelling) args_text Args n
unfolding machine.allowed
args_back n (t.Closes ∷ ts) ws le h = split [] ts refl h (omega arith)
args_back n (t.Name r ∷ ts) ws le h =
    let b = more_args_back n ts ws (omega (arith, le)) h in
    split (r ∷ b.tree) b.rest (ap (λ l. t.Name r ∷ l) b.is) b.left (omega (arith, b.short))
args_back n _ ws le h = cc

-- the start of a state, after its name
start_back : (ts : List Terminal) (ws : List Wanted) → IsRest (Equals ∷ Start ∷ ws) ts
    → Split Bool (λ b rest. t.Equals ∷ start_word b ∷ rest) ws ts
unfolding machine.allowed
start_back (t.Equals ∷ t.Zero ∷ ts) ws h = split false ts refl h (omega arith)
start_back (t.Equals ∷ t.One ∷ ts) ws h = split true ts refl h (omega arith)
start_back _ ws h = cc

abbrev more_states_text : List StateTree → List Terminal → List Terminal
more_states_text ss rest = after_commas state_text ss (t.Closes ∷ rest)

abbrev states_text : List StateTree → List Terminal → List Terminal
states_text ss rest = between_commas state_text ss (t.Closes ∷ rest)

more_states_back : (n : ℕ) → Reads (List StateTree) more_states_text MoreStates n
unfolding machine.allowed
more_states_back zero (u ∷ ts) ws le h = absurd (omega (arith, le))
more_states_back (suc n) (t.Closes ∷ ts) ws le h = split [] ts refl h (omega arith)
more_states_back (suc n) (t.Comma ∷ t.Name r ∷ ts) ws le h =
    let a = start_back ts (MoreStates ∷ ws) h in
    let b = more_states_back n a.rest ws (omega (arith, le, a.short)) a.left in
    split (record { name = r; start = a.tree } ∷ b.tree) b.rest
    (ap (λ l. t.Comma ∷ t.Name r ∷ l) (chain a b)) b.left (omega (arith, a.short, b.short))
more_states_back n _ ws le h = cc

states_back : (n : ℕ) → Reads (List StateTree) states_text States n
unfolding machine.allowed
states_back n (t.Closes ∷ ts) ws le h = split [] ts refl h (omega arith)
states_back n (t.Name r ∷ ts) ws le h =
    let a = start_back ts (MoreStates ∷ ws) h in
    let b = more_states_back n a.rest ws (omega (arith, le, a.short)) a.left in
    split (record { name = r; start = a.tree } ∷ b.tree) b.rest
    (ap (λ l. t.Name r ∷ l) (chain a b)) b.left (omega (arith, a.short, b.short))
states_back n _ ws le h = cc

abbrev assigns_text : List EquationTree → List Terminal → List Terminal
assigns_text es rest = in_turn assign_text es (t.Finishes ∷ rest)

assigns_back : (n : ℕ) → Reads (List EquationTree) assigns_text Assigns n
unfolding machine.allowed
assigns_back zero (u ∷ ts) ws le h = absurd (omega (arith, le))
assigns_back (suc n) (t.Finishes ∷ ts) ws le h = split [] ts refl h (omega arith)
assigns_back (suc n) (t.Name r ∷ t.Equals ∷ ts) ws le h =
    let v = value_back n ts (AssignEnd ∷ Assigns ∷ ws) (omega (arith, le)) h in
    let e = assign_end_back v.rest (Assigns ∷ ws) v.left in
    let b = assigns_back n e.rest ws (omega (arith, le, v.short, e.short)) e.left in
    split (record { name = r; value = v.tree } ∷ b.tree) b.rest
    (ap (λ l. t.Name r ∷ t.Equals ∷ l) (v.is ∙ ap (value_text v.tree) (chain e b))) b.left
    (omega (arith, v.short, e.short, b.short))
assigns_back n _ ws le h = cc

record Lines : Type 0 where
  lets : List EquationTree
  first : EquationTree
  free : is_let first.name ≡ false
  more : List EquationTree

abbrev lines_text : Lines → List Terminal → List Terminal
lines_text b rest = in_turn let_text b.lets (assign_text b.first (assigns_text b.more rest))

-- the first assignment of a block, and those after it
first_line : (r : Spelling) → is_let r ≡ false → (n : ℕ) (ts : List Terminal) (ws : List Wanted)
    → length ts ≤ n → IsRest (Equals ∷ Value ∷ AssignEnd ∷ Assigns ∷ ws) ts
    → Split Lines lines_text ws (t.Name r ∷ ts)
unfolding machine.allowed
first_line r free n (t.Equals ∷ ts) ws le h =
    let v = value_back n ts (AssignEnd ∷ Assigns ∷ ws) (omega (arith, le)) h in
    let e = assign_end_back v.rest (Assigns ∷ ws) v.left in
    let b = assigns_back n e.rest ws (omega (arith, le, v.short, e.short)) e.left in
    split (record {
      lets = [];
      first = record { name = r; value = v.tree };
      free = free;
      more = b.tree;
    }) b.rest (ap (λ l. t.Name r ∷ t.Equals ∷ l) (v.is ∙ ap (value_text v.tree) (chain e b)))
    b.left (omega (arith, v.short, e.short, b.short))
first_line r free n _ ws le h = cc

lets_back : (n : ℕ) → Reads Lines lines_text Lets n
unfolding machine.allowed
lets_back zero (u ∷ ts) ws le h = absurd (omega (arith, le))
lets_back (suc n) (t.Name sp.Let ∷ t.Name x ∷ t.Equals ∷ ts) ws le h =
    let v = value_back n ts (LetEnd ∷ Lets ∷ ws) (omega (arith, le)) h in
    let e = let_end_back v.rest (Lets ∷ ws) v.left in
    let b = lets_back n e.rest ws (omega (arith, le, v.short, e.short)) e.left in
    split (record {
      lets = record { name = x; value = v.tree } ∷ b.tree.lets;
      first = b.tree.first;
      free = b.tree.free;
      more = b.tree.more;
    }) b.rest (ap (λ l. t.Name sp.Let ∷ t.Name x ∷ t.Equals ∷ l)
    (v.is ∙ ap (value_text v.tree) (chain e b))) b.left (omega (arith, v.short, e.short, b.short))
lets_back (suc n) (t.Name sp.Plain ∷ ts) ws le h =
    first_line sp.Plain refl n ts ws (omega (arith, le)) h
lets_back (suc n) (t.Name sp.Op ∷ ts) ws le h =
    first_line sp.Op refl n ts ws (omega (arith, le)) h
lets_back (suc n) (t.Name sp.Word ∷ ts) ws le h =
    first_line sp.Word refl n ts ws (omega (arith, le)) h
lets_back (suc n) (t.Name sp.Bit ∷ ts) ws le h =
    first_line sp.Bit refl n ts ws (omega (arith, le)) h
lets_back (suc n) (t.Name sp.Serial ∷ ts) ws le h =
    first_line sp.Serial refl n ts ws (omega (arith, le)) h
lets_back (suc n) (t.Name sp.Up ∷ ts) ws le h =
    first_line sp.Up refl n ts ws (omega (arith, le)) h
lets_back (suc n) (t.Name sp.Down ∷ ts) ws le h =
    first_line sp.Down refl n ts ws (omega (arith, le)) h
lets_back n _ ws le h = cc

abbrev statements_text : List StatementTree → List Terminal → List Terminal
statements_text ss rest = in_turn statement_text ss (t.Finishes ∷ rest)

-- what stands after a word statement's first target, and after an op's first result
abbrev target_end : Option Spelling → List Terminal → List Terminal
target_end o rest = after_comma name_text o (t.Equals ∷ rest)

abbrev result_end : Option ParamTree → List Terminal → List Terminal
result_end o rest = after_comma param_text o (t.Begins ∷ rest)

target_back : (ts : List Terminal) (ws : List Wanted) → IsRest (SecondTarget ∷ ws) ts
    → Split (Option Spelling) target_end ws ts
unfolding machine.allowed
target_back (t.Equals ∷ ts) ws h = split None ts refl h (omega arith)
target_back (t.Comma ∷ t.Name r ∷ t.Equals ∷ ts) ws h = split (Some r) ts refl h (omega arith)
target_back _ ws h = cc

second_result_back : (ts : List Terminal) (ws : List Wanted) → IsRest (SecondResult ∷ ws) ts
    → Split (Option ParamTree) result_end ws ts
unfolding machine.allowed
second_result_back (t.Begins ∷ ts) ws h = split None ts refl h (omega arith)
second_result_back (t.Comma ∷ ts) ws h =
    let a = result_back ts (Begin ∷ ws) h in
    let b = begin_back a.rest ws a.left in
    split (Some a.tree) b.rest (ap (λ l. t.Comma ∷ l) (chain a b)) b.left
    (omega (arith, a.short, b.short))
second_result_back _ ws h = cc

-- a statement and those after it
record Statements : Type 0 where
  first : StatementTree
  others : List StatementTree

abbrev statements_of : Statements → List Terminal → List Terminal
statements_of s rest = statement_text s.first (statements_text s.others rest)

abbrev ReadsMore : ℕ → Type 0
ReadsMore n = Reads (List StatementTree) statements_text Stmts n

-- the name of an operation with its opening mark
operation_back : (ts : List Terminal) (ws : List Wanted) → IsRest (WordOpName ∷ Open ∷ ws) ts
    → Split Spelling (λ p rest. t.Name p ∷ t.Opens ∷ rest) ws ts
unfolding machine.allowed
operation_back (t.Name p ∷ t.Opens ∷ ts) ws h = split p ts refl h (omega arith)
operation_back _ ws h = cc

word_statement : (r : Spelling) → is_serial r ≡ false → (n : ℕ) → ReadsMore n
    → (ts : List Terminal) (ws : List Wanted) → length ts ≤ n
    → IsRest (SecondTarget ∷ WordOpName ∷ Open ∷ Args ∷ WordEnd ∷ Stmts ∷ ws) ts
    → Split Statements statements_of ws (t.Name r ∷ ts)
word_statement r free n more ts ws le h =
    let o = target_back ts (WordOpName ∷ Open ∷ Args ∷ WordEnd ∷ Stmts ∷ ws) h in
    let p = operation_back o.rest (Args ∷ WordEnd ∷ Stmts ∷ ws) o.left in
    let a = args_back n p.rest (WordEnd ∷ Stmts ∷ ws) (omega (arith, le, o.short, p.short)) p.left in
    let e = word_end_back a.rest (Stmts ∷ ws) a.left in
    let b = more e.rest ws (omega (arith, le, o.short, p.short, a.short, e.short)) e.left in
    split (record {
      first = Compute (record {
        target = r;
        free = free;
        second = o.tree;
        operation = p.tree;
        args = a.tree;
      });
      others = b.tree;
    }) b.rest (ap (λ l. t.Name r ∷ l) (o.is ∙ ap (target_end o.tree) (p.is
    ∙ ap (λ l. t.Name p.tree ∷ t.Opens ∷ l) (a.is ∙ ap (args_text a.tree) (chain e b))))) b.left
    (omega (arith, o.short, p.short, a.short, e.short, b.short))

-- the direction of a block with its opening mark
direction_back : (ts : List Terminal) (ws : List Wanted) → IsRest (Direction ∷ Open ∷ ws) ts
    → Split Bool (λ d rest. direction_word d ∷ t.Opens ∷ rest) ws ts
unfolding machine.allowed
direction_back (t.Name sp.Up ∷ t.Opens ∷ ts) ws h = split false ts refl h (omega arith)
direction_back (t.Name sp.Down ∷ t.Opens ∷ ts) ws h = split true ts refl h (omega arith)
direction_back _ ws h = cc

block : (n : ℕ) → ReadsMore n → (ts : List Terminal) (ws : List Wanted) → length ts ≤ n
    → IsRest (Direction ∷ Open ∷ States ∷ Begin ∷ Lets ∷ Stmts ∷ ws) ts
    → Split Statements statements_of ws (t.Name sp.Serial ∷ ts)
block n more ts ws le h =
    let d = direction_back ts (States ∷ Begin ∷ Lets ∷ Stmts ∷ ws) h in
    let s = states_back n d.rest (Begin ∷ Lets ∷ Stmts ∷ ws) (omega (arith, le, d.short)) d.left in
    let e = begin_back s.rest (Lets ∷ Stmts ∷ ws) s.left in
    let l = lets_back n e.rest (Stmts ∷ ws) (omega (arith, le, d.short, s.short, e.short)) e.left in
    let b = more l.rest ws (omega (arith, le, d.short, s.short, e.short, l.short)) l.left in
    split (record {
      first = Visit (record {
        down = d.tree;
        states = s.tree;
        lets = l.tree.lets;
        first = l.tree.first;
        free = l.tree.free;
        more = l.tree.more;
      });
      others = b.tree;
    }) b.rest (ap (λ x. t.Name sp.Serial ∷ x) (d.is
    ∙ ap (λ x. direction_word d.tree ∷ t.Opens ∷ x) (s.is
    ∙ ap (states_text s.tree) (e.is ∙ ap (λ x. t.Begins ∷ x) (chain l b))))) b.left
    (omega (arith, d.short, s.short, e.short, l.short, b.short))

statement_back : (r : Spelling) (n : ℕ) → ReadsMore n → (ts : List Terminal) (ws : List Wanted)
    → length ts ≤ n → IsRest (statement r ++ ws) ts
    → Split Statements statements_of ws (t.Name r ∷ ts)
statement_back sp.Serial n more ts ws le h = block n more ts ws le h
statement_back r n more ts ws le h = word_statement r refl n more ts ws le h

stmts_back : (n : ℕ) → ReadsMore n
unfolding machine.allowed
stmts_back zero (u ∷ ts) ws le h = absurd (omega (arith, le))
stmts_back (suc n) (t.Finishes ∷ ts) ws le h = split [] ts refl h (omega arith)
stmts_back (suc n) (t.Name r ∷ ts) ws le h =
    let s = statement_back r n (stmts_back n) ts ws (omega (arith, le)) h in
    split (s.tree.first ∷ s.tree.others) s.rest s.is s.left s.short
stmts_back n _ ws le h = cc

first_back : (n : ℕ) → Reads Statements statements_of FirstStmt n
unfolding machine.allowed
first_back n (t.Name r ∷ ts) ws le h = statement_back r n (stmts_back n) ts ws (omega (arith, le)) h
first_back n _ ws le h = cc

op_back : (n : ℕ) (ts : List Terminal) (ws : List Wanted) → length ts ≤ n
    → IsRest (NewOp ∷ Open ∷ NewParam ∷ Colon ∷ ParamKind ∷ Params ∷ Arrow ∷ NewResult ∷ Colon
    ∷ ResultKind ∷ SecondResult ∷ FirstStmt ∷ ws) ts → Split OpTree op_text ws (t.Name sp.Op ∷ ts)
unfolding machine.allowed
op_back n (t.Name x ∷ t.Opens ∷ ts) ws le h =
    let body = NewResult ∷ Colon ∷ ResultKind ∷ SecondResult ∷ FirstStmt ∷ ws in
    let p = param_back ts (Params ∷ Arrow ∷ body) h in
    let ps = params_back n p.rest (Arrow ∷ body) (omega (arith, le, p.short)) p.left in
    let a = arrow_back ps.rest body ps.left in
    let r = result_back a.rest (SecondResult ∷ FirstStmt ∷ ws) a.left in
    let o = second_result_back r.rest (FirstStmt ∷ ws) r.left in
    let s = first_back n o.rest ws
    (omega (arith, le, p.short, ps.short, a.short, r.short, o.short)) o.left in
    split (record {
      name = x;
      source = p.tree;
      sources = ps.tree;
      result = r.tree;
      second = o.tree;
      statement = s.tree.first;
      statements = s.tree.others;
    }) s.rest (ap (λ l. t.Name sp.Op ∷ t.Name x ∷ t.Opens ∷ l) (p.is ∙ ap (param_text p.tree) (ps.is
    ∙ ap (params_text ps.tree) (a.is ∙ ap (λ l. t.Arrow ∷ l) (r.is
    ∙ ap (param_text r.tree) (chain o s)))))) s.left
    (omega (arith, p.short, ps.short, a.short, r.short, o.short, s.short))
op_back n _ ws le h = cc

pub text_back : (n : ℕ) (ts : List Terminal) → length ts ≤ n → IsRest (Ops ∷ []) ts → IsText ts
unfolding machine.allowed
text_back n [] le h = ([], refl)
text_back zero (u ∷ ts) le h = absurd (omega (arith, le))
text_back (suc n) (t.Name sp.Op ∷ ts) le h =
    let s = op_back n ts (Ops ∷ []) (omega (arith, le)) h in
    let m = text_back n s.rest (omega (arith, le, s.short)) s.left in
    (s.tree ∷ m.0, s.is ∙ ap (op_text s.tree) m.1)
text_back (suc n) _ le h = cc
