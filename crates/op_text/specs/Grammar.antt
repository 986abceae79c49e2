-- The grammar, one token at a time.
use Rattle.std.specs.Prelude.{Bool, List, [], ◌∷◌, Option, Some, None}
use Rattle.std.specs.Prelude.{if◌then◌else◌}
use Rattle.op_text.specs.declared.wanted.Wanted.{Wanted}
use Rattle.op_text.specs.declared.wanted.Wanted.TheVariants.{Ops, NewOp, NewParam, ParamKind}
use Rattle.op_text.specs.declared.wanted.Wanted.TheVariants.{Params, NewResult, ResultKind}
use Rattle.op_text.specs.declared.wanted.Wanted.TheVariants.{FirstStmt, Stmts, WordOpName, Args}
use Rattle.op_text.specs.declared.wanted.Wanted.TheVariants.{ArgName, MoreArgs, WordEnd, Direction}
use Rattle.op_text.specs.declared.wanted.Wanted.TheVariants.{States, StateName, MoreStates, Start}
use Rattle.op_text.specs.declared.wanted.Wanted.TheVariants.{Lets, LetName, LetEnd, AssignEnd}
use Rattle.op_text.specs.declared.wanted.Wanted.TheVariants.{Assigns, Value, GateOpen, More, Open}
use Rattle.op_text.specs.declared.wanted.Wanted.TheVariants.{Begin, Colon, Arrow, Equals}
use Rattle.op_text.specs.declared.wanted.Wanted.TheVariants.{SecondResult, SecondTarget}
use Rattle.op_text.specs.declared.wanted.Wanted.TheVariants.{NewTarget}
use Rattle.op_text.specs.declared.terminal.Terminal.{Terminal}
use Rattle.op_text.specs.declared.terminal.Terminal.TheVariants as t
use Rattle.op_text.specs.declared.terminal.Spelling.{Spelling}
use Rattle.op_text.specs.declared.terminal.Spelling.TheVariants as sp

-- a statement, after its first token
abbrev pub statement : Spelling → List Wanted
statement sp.Serial = Direction ∷ Open ∷ States ∷ Begin ∷ Lets ∷ Stmts ∷ []
statement n = SecondTarget ∷ WordOpName ∷ Open ∷ Args ∷ WordEnd ∷ Stmts ∷ []

-- a line of a block, after its first token
abbrev pub let_or_assign : Spelling → List Wanted
let_or_assign sp.Let = LetName ∷ Equals ∷ Value ∷ LetEnd ∷ Lets ∷ []
let_or_assign n = Equals ∷ Value ∷ AssignEnd ∷ Assigns ∷ []

-- what an op asks for after its first word, which is "op"
abbrev pub op_word : Spelling → Option (List Wanted)
op_word sp.Op = Some (NewOp ∷ Open ∷ NewParam ∷ Colon ∷ ParamKind ∷ Params ∷ Arrow ∷ NewResult
    ∷ Colon ∷ ResultKind ∷ SecondResult ∷ FirstStmt ∷ Ops ∷ [])
op_word n = None

-- the word of a kind, "word" or "bit", after which nothing more is asked for
abbrev pub kind_word : Spelling → Option (List Wanted)
kind_word sp.Word = Some []
kind_word sp.Bit = Some []
kind_word n = None

-- the direction of a block, "up" or "down", after which nothing more is asked for
abbrev pub direction_word : Spelling → Option (List Wanted)
direction_word sp.Up = Some []
direction_word sp.Down = Some []
direction_word n = None

-- What the grammar asks for after a token, before all that it asked for later; or none, where it
-- does not allow the token. The flag says whether an opening parenthesis follows.
abbrev pub follow : Wanted → Terminal → Bool → Option (List Wanted)
follow Ops (t.Name n) o = op_word n
follow NewOp (t.Name n) o = Some []
follow NewParam (t.Name n) o = Some []
follow ParamKind (t.Name n) o = kind_word n
follow Params t.Comma o = Some (NewParam ∷ Colon ∷ ParamKind ∷ Params ∷ [])
follow Params t.Closes o = Some []
follow NewResult (t.Name n) o = Some []
follow ResultKind (t.Name n) o = kind_word n
follow SecondResult t.Comma o = Some (NewResult ∷ Colon ∷ ResultKind ∷ Begin ∷ [])
follow SecondResult t.Begins o = Some []
follow FirstStmt (t.Name n) o = Some (statement n)
follow Stmts (t.Name n) o = Some (statement n)
follow Stmts t.Finishes o = Some []
follow SecondTarget t.Comma o = Some (NewTarget ∷ Equals ∷ [])
follow SecondTarget t.Equals o = Some []
follow NewTarget (t.Name n) o = Some []
follow WordOpName (t.Name n) o = Some []
follow Args (t.Name n) o = Some (MoreArgs ∷ [])
follow Args t.Closes o = Some []
follow ArgName (t.Name n) o = Some []
follow MoreArgs t.Comma o = Some (ArgName ∷ MoreArgs ∷ [])
follow MoreArgs t.Closes o = Some []
follow WordEnd t.Semi o = Some []
follow Direction (t.Name n) o = direction_word n
follow States (t.Name n) o = Some (Equals ∷ Start ∷ MoreStates ∷ [])
follow States t.Closes o = Some []
follow StateName (t.Name n) o = Some []
follow MoreStates t.Comma o = Some (StateName ∷ Equals ∷ Start ∷ MoreStates ∷ [])
follow MoreStates t.Closes o = Some []
follow Start t.Zero o = Some []
follow Start t.One o = Some []
follow Lets (t.Name n) o = Some (let_or_assign n)
follow LetName (t.Name n) o = Some []
follow LetEnd t.Semi o = Some []
follow AssignEnd t.Semi o = Some []
follow Assigns (t.Name n) o = Some (Equals ∷ Value ∷ AssignEnd ∷ Assigns ∷ [])
follow Assigns t.Finishes o = Some []
follow Value t.Zero o = Some []
follow Value t.One o = Some []
follow Value (t.Name n) o = Some (if o then GateOpen ∷ Value ∷ More ∷ [] else [])
follow GateOpen t.Opens o = Some []
follow More t.Comma o = Some (Value ∷ More ∷ [])
follow More t.Closes o = Some []
follow Open t.Opens o = Some []
follow Begin t.Begins o = Some []
follow Colon t.Colon o = Some []
follow Arrow t.Arrow o = Some []
follow Equals t.Equals o = Some []
follow w u o = None
