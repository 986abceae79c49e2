-- The grammar's steps and the grammar's texts.
use Rattle.std.proofs.Common.{◌≡◌, Bool, true, false, List, [], ◌∷◌, Option, Some, None, refl, ◌∙◌}
use Rattle.op_text.specs.declared.terminal.Terminal.{Terminal}
use Rattle.op_text.specs.declared.terminal.Terminal.TheVariants as t
use Rattle.op_text.specs.declared.terminal.Spelling.{Spelling}
use Rattle.op_text.specs.declared.terminal.Spelling.TheVariants as sp
use Rattle.op_text.specs.declared.tree.Kind.{Kind}
use Rattle.op_text.specs.declared.tree.Kind.TheVariants.{Word, Bit}
use Rattle.op_text.specs.declared.wanted.Wanted.{Wanted}
use Rattle.op_text.specs.declared.wanted.Wanted.TheVariants.{Ops, NewParam, ParamKind, Params}
use Rattle.op_text.specs.declared.wanted.Wanted.TheVariants.{NewResult, ResultKind, FirstStmt}
use Rattle.op_text.specs.declared.wanted.Wanted.TheVariants.{Stmts, WordOpName, Args, MoreArgs}
use Rattle.op_text.specs.declared.wanted.Wanted.TheVariants.{WordEnd, Direction, States}
use Rattle.op_text.specs.declared.wanted.Wanted.TheVariants.{MoreStates, Start, Lets, LetEnd}
use Rattle.op_text.specs.declared.wanted.Wanted.TheVariants.{AssignEnd, Assigns, Value, More, Open}
use Rattle.op_text.specs.declared.wanted.Wanted.TheVariants.{Begin, Colon, Arrow, Equals}
use Rattle.op_text.specs.declared.wanted.Wanted.TheVariants.{SecondResult, SecondTarget}
use Rattle.grammar.specs.Machine as machine
use Rattle.op_text.proofs.Allowed.{allowed, opens_terminal}
use Rattle.op_text.specs.Trees.{Tree, Trees, Nought, Unity, Leaf, Call, Last, Then, ParamTree}
use Rattle.op_text.specs.Trees.{StateTree, EquationTree, StatementTree, Compute, Visit, OpTree}
use Rattle.op_text.specs.Trees.{is_serial, is_let, value_text, values_text, after_commas}
use Rattle.op_text.specs.Trees.{after_comma, between_commas, in_turn, kind_word, direction_word}
use Rattle.op_text.specs.Trees.{start_word}
use Rattle.op_text.specs.Trees.{name_text, param_text, state_text, assign_text, let_text}
use Rattle.op_text.specs.Trees.{statement_text, op_text, text_of}

-- Each text of the grammar is accepted.
shut_rest : (r : Trees) (rest : List Terminal) → opens_terminal (values_text r rest) ≡ false
shut_rest Last rest = refl
shut_rest (Then a r) rest = refl

mutual
  unfolding machine.allowed

  value_runs : (a : Tree) (ws : List Wanted) (rest : List Terminal) → opens_terminal rest ≡ false
      → allowed (Value ∷ ws) (value_text a rest) ≡ allowed ws rest
  value_runs Nought ws rest h = refl
  value_runs Unity ws rest h = refl
  value_runs (Leaf n) ws rest h = rw h refl
  value_runs (Call n a r) ws rest h = value_runs a (More ∷ ws) (values_text r rest)
      (shut_rest r rest) ∙ values_runs r ws rest

  values_runs : (r : Trees) (ws : List Wanted) (rest : List Terminal)
      → allowed (More ∷ ws) (values_text r rest) ≡ allowed ws rest
  values_runs Last ws rest = refl
  values_runs (Then a r) ws rest = value_runs a (More ∷ ws) (values_text r rest) (shut_rest r rest)
      ∙ values_runs r ws rest

param_runs : (p : ParamTree) (ws : List Wanted) (rest : List Terminal)
    → allowed (NewParam ∷ Colon ∷ ParamKind ∷ ws) (param_text p rest) ≡ allowed ws rest
unfolding machine.allowed
param_runs p ws rest = by_kind p.kind
  where
    by_kind : (k : Kind) → allowed (ParamKind ∷ ws) (kind_word k ∷ rest) ≡ allowed ws rest
    by_kind Word = refl
    by_kind Bit = refl

result_runs : (p : ParamTree) (ws : List Wanted) (rest : List Terminal)
    → allowed (NewResult ∷ Colon ∷ ResultKind ∷ ws) (param_text p rest) ≡ allowed ws rest
unfolding machine.allowed
result_runs p ws rest = by_kind p.kind
  where
    by_kind : (k : Kind) → allowed (ResultKind ∷ ws) (kind_word k ∷ rest) ≡ allowed ws rest
    by_kind Word = refl
    by_kind Bit = refl

params_run : (ps : List ParamTree) (ws : List Wanted) (rest : List Terminal)
    → allowed (Params ∷ ws) (after_commas param_text ps (t.Closes ∷ rest)) ≡ allowed ws rest
unfolding machine.allowed
params_run [] ws rest = refl
params_run (p ∷ ps) ws rest = param_runs p (Params
    ∷ ws) (after_commas param_text ps (t.Closes ∷ rest)) ∙ params_run ps ws rest

more_args_run : (ns : List Spelling) (ws : List Wanted) (rest : List Terminal)
    → allowed (MoreArgs ∷ ws) (after_commas name_text ns (t.Closes ∷ rest)) ≡ allowed ws rest
unfolding machine.allowed
more_args_run [] ws rest = refl
more_args_run (n ∷ ns) ws rest = more_args_run ns ws rest

args_run : (ns : List Spelling) (ws : List Wanted) (rest : List Terminal)
    → allowed (Args ∷ ws) (between_commas name_text ns (t.Closes ∷ rest)) ≡ allowed ws rest
unfolding machine.allowed
args_run [] ws rest = refl
args_run (n ∷ ns) ws rest = more_args_run ns ws rest

state_runs : (b : Bool) (ws : List Wanted) (rest : List Terminal)
    → allowed (Start ∷ ws) (start_word b ∷ rest) ≡ allowed ws rest
unfolding machine.allowed
state_runs true ws rest = refl
state_runs false ws rest = refl

more_states_run : (ss : List StateTree) (ws : List Wanted) (rest : List Terminal)
    → allowed (MoreStates ∷ ws) (after_commas state_text ss (t.Closes ∷ rest)) ≡ allowed ws rest
unfolding machine.allowed
more_states_run [] ws rest = refl
more_states_run (s ∷ ss) ws rest = state_runs s.start (MoreStates
    ∷ ws) (after_commas state_text ss (t.Closes ∷ rest)) ∙ more_states_run ss ws rest

states_run : (ss : List StateTree) (ws : List Wanted) (rest : List Terminal)
    → allowed (States ∷ ws) (between_commas state_text ss (t.Closes ∷ rest)) ≡ allowed ws rest
unfolding machine.allowed
states_run [] ws rest = refl
states_run (s ∷ ss) ws rest = state_runs s.start (MoreStates
    ∷ ws) (after_commas state_text ss (t.Closes ∷ rest)) ∙ more_states_run ss ws rest

assigns_run : (es : List EquationTree) (ws : List Wanted) (rest : List Terminal)
    → allowed (Assigns ∷ ws) (in_turn assign_text es (t.Finishes ∷ rest)) ≡ allowed ws rest
unfolding machine.allowed
assigns_run [] ws rest = refl
assigns_run (e ∷ es) ws rest = value_runs e.value (AssignEnd ∷ Assigns ∷ ws) (t.Semi
    ∷ in_turn assign_text es (t.Finishes ∷ rest)) refl ∙ assigns_run es ws rest

first_runs : (n : Spelling) → is_let n ≡ false → (ws : List Wanted) (rest : List Terminal)
    → allowed (Lets ∷ ws) (t.Name n ∷ rest) ≡ allowed (Equals ∷ Value ∷ AssignEnd ∷ Assigns
    ∷ ws) rest
unfolding machine.allowed
first_runs sp.Let h ws rest = cc
first_runs _ h ws rest = refl

lets_run : (ls : List EquationTree) (e : EquationTree) (es : List EquationTree)
    → is_let e.name ≡ false → (ws : List Wanted) (rest : List Terminal)
    → allowed (Lets ∷ ws) (in_turn let_text ls
    (assign_text e (in_turn assign_text es (t.Finishes ∷ rest)))) ≡ allowed ws rest
unfolding machine.allowed
lets_run [] e es h ws rest = first_runs e.name h ws (t.Equals
    ∷ value_text e.value (t.Semi ∷ in_turn assign_text es (t.Finishes ∷ rest)))
    ∙ value_runs e.value (AssignEnd ∷ Assigns ∷ ws) (t.Semi
    ∷ in_turn assign_text es (t.Finishes ∷ rest)) refl ∙ assigns_run es ws rest
lets_run (l ∷ ls) e es h ws rest =
    value_runs l.value (LetEnd ∷ Lets ∷ ws) (t.Semi
    ∷ in_turn let_text ls (assign_text e (in_turn assign_text es (t.Finishes ∷ rest)))) refl
    ∙ lets_run ls e es h ws rest

direction_runs : (b : Bool) (ws : List Wanted) (rest : List Terminal)
    → allowed (Direction ∷ ws) (direction_word b ∷ rest) ≡ allowed ws rest
unfolding machine.allowed
direction_runs true ws rest = refl
direction_runs false ws rest = refl

target_runs : (n : Spelling) → is_serial n ≡ false → (ws : List Wanted) (rest : List Terminal)
    → allowed (Stmts ∷ ws) (t.Name n ∷ rest) ≡ allowed (SecondTarget ∷ WordOpName ∷ Open ∷ Args
    ∷ WordEnd ∷ Stmts ∷ ws) rest
unfolding machine.allowed
target_runs sp.Serial h ws rest = cc
target_runs _ h ws rest = refl

second_target_runs : (o : Option Spelling) (ws : List Wanted) (rest : List Terminal)
    → allowed (SecondTarget ∷ ws) (after_comma name_text o (t.Equals ∷ rest)) ≡ allowed ws rest
unfolding machine.allowed
second_target_runs None ws rest = refl
second_target_runs (Some n) ws rest = refl

second_result_runs : (o : Option ParamTree) (ws : List Wanted) (rest : List Terminal)
    → allowed (SecondResult ∷ ws) (after_comma param_text o (t.Begins ∷ rest)) ≡ allowed ws rest
unfolding machine.allowed
second_result_runs None ws rest = refl
second_result_runs (Some p) ws rest = result_runs p (Begin ∷ ws) (t.Begins ∷ rest)

statement_runs : (s : StatementTree) (ws : List Wanted) (rest : List Terminal)
    → allowed (Stmts ∷ ws) (statement_text s rest) ≡ allowed (Stmts ∷ ws) rest
unfolding machine.allowed
statement_runs (Compute w) ws rest =
    let d = t.Name w.operation ∷ t.Opens
    ∷ between_commas name_text w.args (t.Closes ∷ t.Semi ∷ rest) in
    target_runs w.target w.free ws (after_comma name_text w.second (t.Equals ∷ d))
    ∙ second_target_runs w.second (WordOpName ∷ Open ∷ Args ∷ WordEnd ∷ Stmts ∷ ws) d
    ∙ args_run w.args (WordEnd ∷ Stmts ∷ ws) (t.Semi ∷ rest)
statement_runs (Visit b) ws rest =
    direction_runs b.down (Open ∷ States ∷ Begin ∷ Lets ∷ Stmts ∷ ws) (t.Opens
    ∷ between_commas state_text b.states (t.Closes ∷ t.Begins
    ∷ in_turn let_text b.lets (assign_text b.first
    (in_turn assign_text b.more (t.Finishes ∷ rest)))))
    ∙ states_run b.states (Begin ∷ Lets ∷ Stmts ∷ ws) (t.Begins
    ∷ in_turn let_text b.lets (assign_text b.first
    (in_turn assign_text b.more (t.Finishes ∷ rest))))
    ∙ lets_run b.lets b.first b.more b.free (Stmts ∷ ws) rest

first_statement : (s : StatementTree) (ws : List Wanted) (rest : List Terminal)
    → allowed (FirstStmt ∷ ws) (statement_text s rest)
    ≡ allowed (Stmts ∷ ws) (statement_text s rest)
unfolding machine.allowed
first_statement (Compute w) ws rest = refl
first_statement (Visit b) ws rest = refl

statements_run : (ss : List StatementTree) (ws : List Wanted) (rest : List Terminal)
    → allowed (Stmts ∷ ws) (in_turn statement_text ss (t.Finishes ∷ rest)) ≡ allowed ws rest
unfolding machine.allowed
statements_run [] ws rest = refl
statements_run (s ∷ ss) ws rest = statement_runs s ws
    (in_turn statement_text ss (t.Finishes ∷ rest)) ∙ statements_run ss ws rest

op_runs : (op : OpTree) (rest : List Terminal)
    → allowed (Ops ∷ []) (op_text op rest) ≡ allowed (Ops ∷ []) rest
unfolding machine.allowed
op_runs op rest =
    let b = statement_text op.statement
    (in_turn statement_text op.statements (t.Finishes ∷ rest)) in
    let d = after_comma param_text op.second (t.Begins ∷ b) in
    param_runs op.source (Params ∷ Arrow ∷ NewResult ∷ Colon ∷ ResultKind ∷ SecondResult
    ∷ FirstStmt ∷ Ops ∷ []) (after_commas param_text op.sources (t.Closes ∷ t.Arrow
    ∷ param_text op.result d))
    ∙ params_run op.sources (Arrow ∷ NewResult ∷ Colon ∷ ResultKind ∷ SecondResult ∷ FirstStmt
    ∷ Ops ∷ []) (t.Arrow ∷ param_text op.result d)
    ∙ result_runs op.result (SecondResult ∷ FirstStmt ∷ Ops ∷ []) d
    ∙ second_result_runs op.second (FirstStmt ∷ Ops ∷ []) b
    ∙ first_statement op.statement (Ops ∷ [])
    (in_turn statement_text op.statements (t.Finishes ∷ rest))
    ∙ statement_runs op.statement (Ops ∷ []) (in_turn statement_text op.statements (t.Finishes
    ∷ rest))
    ∙ statements_run op.statements (Ops ∷ []) rest

pub text_runs : (ops : List OpTree) → allowed (Ops ∷ []) (text_of ops) ≡ Some (Ops ∷ [])
unfolding machine.allowed
text_runs [] = refl
text_runs (op ∷ ops) = op_runs op (text_of ops) ∙ text_runs ops
