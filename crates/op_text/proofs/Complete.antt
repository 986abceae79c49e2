-- The grammar's steps allow tokens exactly where a text of the grammar starts with them.
use Rattle.std.proofs.Common.{◌≡◌, Bool, true, false, ◌&&◌, List, [], ◌∷◌, ◌++◌, length, Option}
use Rattle.std.proofs.Common.{Some, None, refl, ap, ◌∙◌, arith, subst}
use Rattle.op_text.specs.declared.terminal.Terminal.{Terminal}
use Rattle.op_text.specs.declared.terminal.Terminal.TheVariants as t
use Rattle.op_text.specs.declared.terminal.Spelling.{Spelling}
use Rattle.op_text.specs.declared.terminal.Spelling.TheVariants as sp
use Rattle.op_text.specs.Items.{is_opening}
use Rattle.op_text.specs.declared.wanted.Wanted.{Wanted}
use Rattle.op_text.specs.declared.wanted.Wanted.TheVariants.{Ops, NewOp, NewParam, ParamKind}
use Rattle.op_text.specs.declared.wanted.Wanted.TheVariants.{Params, NewResult, ResultKind}
use Rattle.op_text.specs.declared.wanted.Wanted.TheVariants.{FirstStmt, Stmts, WordOpName, Args}
use Rattle.op_text.specs.declared.wanted.Wanted.TheVariants.{ArgName, MoreArgs, WordEnd, Direction}
use Rattle.op_text.specs.declared.wanted.Wanted.TheVariants.{States, StateName, MoreStates, Start}
use Rattle.op_text.specs.declared.wanted.Wanted.TheVariants.{Lets, LetName, LetEnd, AssignEnd}
use Rattle.op_text.specs.declared.wanted.Wanted.TheVariants.{Assigns, Value, GateOpen, More, Open}
use Rattle.op_text.specs.declared.wanted.Wanted.TheVariants.{Begin, Colon, Arrow, Equals}
use Rattle.op_text.specs.declared.wanted.Wanted.TheVariants.{SecondResult, SecondTarget}
use Rattle.op_text.specs.declared.wanted.Wanted.TheVariants.{NewTarget}
use Rattle.grammar.specs.Machine as machine
use Rattle.grammar.specs.Laws.{IsAccepted, IsTheGrammar}
use Rattle.grammar.proofs.Complete.{Completes, is_the_grammar, stack_is_fine}
use Rattle.grammar.proofs.Found.{IsAlike}
use Rattle.op_text.specs.Grammar.{follow, statement, let_or_assign}
use Rattle.op_text.specs.Rules.{operation_texts}
use Rattle.op_text.specs.Trees.{IsText}
use Rattle.op_text.proofs.Allowed.{allowed, opens_terminal}
use Rattle.op_text.proofs.Forward.{text_runs}
use Rattle.op_text.proofs.Back.{text_back}

-- Where a token is refused, it is refused whatever follows.
pub alike : IsAlike operation_texts
alike Value (t.Name n) o p h = cc
alike _ t.Zero o p h = h
alike _ _ o p h = h

-- What is wanted can be given: a gate's parenthesis is wanted only where it follows, an op only at
-- the bottom, and after a value comes what cannot be a parenthesis.
abbrev pub is_stack : List Wanted → Bool
is_stack [] = false
is_stack (Ops ∷ []) = true
is_stack (Ops ∷ w ∷ ws) = false
is_stack (GateOpen ∷ ws) = false
is_stack (Value ∷ More ∷ ws) = is_stack ws
is_stack (Value ∷ LetEnd ∷ ws) = is_stack ws
is_stack (Value ∷ AssignEnd ∷ ws) = is_stack ws
is_stack (Value ∷ ws) = false
is_stack (w ∷ ws) = is_stack ws

abbrev pub is_before : Bool → List Wanted → Bool
is_before o (GateOpen ∷ ws) = o && is_stack ws
is_before o ws = is_stack ws

loosen : (o : Bool) (ws : List Wanted) → is_stack ws ≡ true → is_before o ws ≡ true
loosen o [] h = h
loosen o (GateOpen ∷ ws) h = cc
loosen o (w ∷ ws) h = h

unloosen : (ws : List Wanted) → is_before false ws ≡ true → is_stack ws ≡ true
unloosen [] h = h
unloosen (GateOpen ∷ ws) h = cc
unloosen (w ∷ ws) h = h

-- the shortest way to give it
abbrev closing : Wanted → List Terminal
closing Ops = []
closing NewOp = t.Name sp.Plain ∷ []
closing NewParam = t.Name sp.Plain ∷ []
closing ParamKind = t.Name sp.Word ∷ []
closing Params = t.Closes ∷ []
closing NewResult = t.Name sp.Plain ∷ []
closing ResultKind = t.Name sp.Word ∷ []
closing FirstStmt = t.Name sp.Plain ∷ t.Equals ∷ t.Name sp.Plain ∷ t.Opens ∷ t.Closes ∷ t.Semi
    ∷ t.Finishes ∷ []
closing Stmts = t.Finishes ∷ []
closing SecondResult = t.Begins ∷ []
closing SecondTarget = t.Equals ∷ []
closing NewTarget = t.Name sp.Plain ∷ []
closing WordOpName = t.Name sp.Plain ∷ []
closing Args = t.Closes ∷ []
closing ArgName = t.Name sp.Plain ∷ []
closing MoreArgs = t.Closes ∷ []
closing WordEnd = t.Semi ∷ []
closing Direction = t.Name sp.Up ∷ []
closing States = t.Closes ∷ []
closing StateName = t.Name sp.Plain ∷ []
closing MoreStates = t.Closes ∷ []
closing Start = t.Zero ∷ []
closing Lets = t.Name sp.Plain ∷ t.Equals ∷ t.Zero ∷ t.Semi ∷ t.Finishes ∷ []
closing LetName = t.Name sp.Plain ∷ []
closing LetEnd = t.Semi ∷ []
closing AssignEnd = t.Semi ∷ []
closing Assigns = t.Finishes ∷ []
closing Value = t.Zero ∷ []
closing GateOpen = []
closing More = t.Closes ∷ []
closing Open = t.Opens ∷ []
closing Begin = t.Begins ∷ []
closing Colon = t.Colon ∷ []
closing Arrow = t.Arrow ∷ []
closing Equals = t.Equals ∷ []

abbrev finish : List Wanted → List Terminal
finish [] = []
finish (w ∷ ws) = closing w ++ finish ws

finishes : (ws : List Wanted) → is_stack ws ≡ true → allowed ws (finish ws) ≡ Some (Ops ∷ [])
unfolding machine.allowed
finishes [] h = cc
finishes (Ops ∷ []) h = refl
finishes (Ops ∷ w ∷ ws) h = cc
finishes (GateOpen ∷ ws) h = cc
finishes (Value ∷ More ∷ ws) h = finishes (More ∷ ws) h
finishes (Value ∷ LetEnd ∷ ws) h = finishes (LetEnd ∷ ws) h
finishes (Value ∷ AssignEnd ∷ ws) h = finishes (AssignEnd ∷ ws) h
finishes (Value ∷ ws) h = cc
finishes (w ∷ ws) h = finishes ws h

below : (ws : List Wanted) → is_stack (Value ∷ ws) ≡ true → (is_stack ws ≡ true)
    × (opens_terminal (finish ws) ≡ false)
below (More ∷ ws) h = (h, refl)
below (LetEnd ∷ ws) h = (h, refl)
below (AssignEnd ∷ ws) h = (h, refl)
below [] h = cc
below (w ∷ ws) h = cc

-- what is wanted after a token can be given
abbrev Keeps : Bool → List Wanted → Option (List Wanted) → Type 0
Keeps o ws None = Unit {0}
Keeps o ws (Some front) = is_before o (front ++ ws) ≡ true

ops_keep : (n : Spelling) (ws : List Wanted) (o : Bool) → is_stack (Ops ∷ ws) ≡ true
    → Keeps o ws (follow Ops (t.Name n) o)
ops_keep sp.Op [] o h = refl
ops_keep sp.Op (w ∷ ws) o h = cc
ops_keep _ [] o h = tt
ops_keep _ (w ∷ ws) o h = tt

kind_keeps : (n : Spelling) (ws : List Wanted) (o : Bool) → is_stack ws ≡ true
    → Keeps o ws (follow ParamKind (t.Name n) o)
kind_keeps sp.Word ws o h = loosen o ws h
kind_keeps sp.Bit ws o h = loosen o ws h
kind_keeps _ ws o h = tt

direction_keeps : (n : Spelling) (ws : List Wanted) (o : Bool) → is_stack ws ≡ true
    → Keeps o ws (follow Direction (t.Name n) o)
direction_keeps sp.Up ws o h = loosen o ws h
direction_keeps sp.Down ws o h = loosen o ws h
direction_keeps _ ws o h = tt

statement_keeps : (n : Spelling) (ws : List Wanted) (o : Bool) → is_stack ws ≡ true
    → is_before o (statement n ++ ws) ≡ true
statement_keeps sp.Serial ws o h = h
statement_keeps _ ws o h = h

line_keeps : (n : Spelling) (ws : List Wanted) (o : Bool) → is_stack ws ≡ true
    → is_before o (let_or_assign n ++ ws) ≡ true
line_keeps sp.Let ws o h = h
line_keeps _ ws o h = h

value_keeps : (n : Spelling) (ws : List Wanted) (o : Bool) → is_stack (Value ∷ ws) ≡ true
    → Keeps o ws (follow Value (t.Name n) o)
value_keeps n ws true h = (below ws h).0
value_keeps n ws false h = loosen false ws (below ws h).0

keeps : (want : Wanted) (ws : List Wanted) (u : Terminal) (o : Bool)
    → is_before (is_opening u) (want ∷ ws) ≡ true → Keeps o ws (follow want u o)
keeps Ops ws (t.Name n) o h = ops_keep n ws o h
keeps ParamKind ws (t.Name n) o h = kind_keeps n ws o h
keeps ResultKind ws (t.Name n) o h = kind_keeps n ws o h
keeps Direction ws (t.Name n) o h = direction_keeps n ws o h
keeps FirstStmt ws (t.Name n) o h = statement_keeps n ws o h
keeps Stmts ws (t.Name n) o h = statement_keeps n ws o h
keeps Lets ws (t.Name n) o h = line_keeps n ws o h
keeps Value ws (t.Name n) o h = value_keeps n ws o h
keeps Value ws t.Zero o h = loosen o ws (below ws h).0
keeps Value ws t.One o h = loosen o ws (below ws h).0
keeps GateOpen ws t.Opens o h = loosen o ws h
keeps NewOp ws (t.Name n) o h = loosen o ws h
keeps NewParam ws (t.Name n) o h = loosen o ws h
keeps NewResult ws (t.Name n) o h = loosen o ws h
keeps NewTarget ws (t.Name n) o h = loosen o ws h
keeps WordOpName ws (t.Name n) o h = loosen o ws h
keeps ArgName ws (t.Name n) o h = loosen o ws h
keeps StateName ws (t.Name n) o h = loosen o ws h
keeps LetName ws (t.Name n) o h = loosen o ws h
keeps Params ws t.Closes o h = loosen o ws h
keeps Args ws t.Closes o h = loosen o ws h
keeps MoreArgs ws t.Closes o h = loosen o ws h
keeps States ws t.Closes o h = loosen o ws h
keeps MoreStates ws t.Closes o h = loosen o ws h
keeps More ws t.Closes o h = loosen o ws h
keeps Start ws t.Zero o h = loosen o ws h
keeps Start ws t.One o h = loosen o ws h
keeps LetEnd ws t.Semi o h = loosen o ws h
keeps AssignEnd ws t.Semi o h = loosen o ws h
keeps WordEnd ws t.Semi o h = loosen o ws h
keeps Stmts ws t.Finishes o h = loosen o ws h
keeps Assigns ws t.Finishes o h = loosen o ws h
keeps Open ws t.Opens o h = loosen o ws h
keeps Begin ws t.Begins o h = loosen o ws h
keeps Colon ws t.Colon o h = loosen o ws h
keeps Arrow ws t.Arrow o h = loosen o ws h
keeps Equals ws t.Equals o h = loosen o ws h
keeps SecondResult ws t.Begins o h = loosen o ws h
keeps SecondTarget ws t.Equals o h = loosen o ws h
keeps SecondResult ws t.Comma o h = h
keeps SecondTarget ws t.Comma o h = h
keeps Params ws t.Comma o h = h
keeps Args ws (t.Name n) o h = h
keeps MoreArgs ws t.Comma o h = h
keeps States ws (t.Name n) o h = h
keeps MoreStates ws t.Comma o h = h
keeps Assigns ws (t.Name n) o h = h
keeps More ws t.Comma o h = h
keeps _ ws _ o h = tt

-- the flag after the last token
last_flag : (want : Wanted) (ws : List Wanted) (u : Terminal) (front : List Wanted)
    → is_before (is_opening u) (want ∷ ws) ≡ true → follow want u false ≡ Some front
    → follow want u (opens_terminal (finish (front ++ ws))) ≡ Some front
last_flag Value ws (t.Name n) front s h =
    let e : [] ≡ front = cc in
    rw (← e, (below ws s).1) refl
last_flag _ ws t.Zero front s h = h
last_flag _ ws _ front s h = h

keeps_some : (want : Wanted) (ws front : List Wanted) (u : Terminal) (o : Bool)
    → is_before (is_opening u) (want ∷ ws) ≡ true → follow want u o ≡ Some front
    → is_before o (front ++ ws) ≡ true
keeps_some want ws front u o h e =
    subst (Keeps o ws) e (keeps want ws u o h)

-- what is wanted can be given
pub completes : Completes operation_texts
completes = record {
  Fine = λ o ws. is_before o ws ≡ true;
  first = λ o. refl;
  keeps = keeps_some;
  finish = finish;
  finishes = λ ws h. (Ops ∷ [], finishes ws (unloosen ws h), refl);
  last = λ want ws front u h e. last_flag want ws u front h e;
}

only_ops : (end : List Wanted) → is_stack end ≡ true → machine.ends operation_texts end ≡ None
    → end ≡ Ops ∷ []
only_ops [] h e = cc
only_ops (Ops ∷ []) h e = refl
only_ops (Ops ∷ w ∷ ws) h e = cc
only_ops (w ∷ ws) h e = cc

back : (ts : List Terminal) → IsAccepted operation_texts ts → IsText ts
unfolding completes
back ts (end, e, f) =
    let same = only_ops end (unloosen end (stack_is_fine operation_texts completes ts end e)) f in
    text_back (length ts) ts (omega arith) (e ∙ ap (λ (w : List Wanted). Some w) same)

pub grammar : IsTheGrammar operation_texts IsText
grammar = is_the_grammar operation_texts completes IsText alike back
    (λ ts (ops, e). (Ops ∷ [], ap (allowed (Ops ∷ [])) e ∙ text_runs ops, refl))
