-- The first breach is another rule's, or what the grammar finds.
use Rattle.std.proofs.Common.{◌≡◌, ℕ, zero, suc, Bool, true, false, cond, List, [], ◌∷◌}
use Rattle.std.proofs.Common.{Option, Some, None, Result, Ok, Err, refl, ap, subst}
use Rattle.grammar.specs.Laws.{IsOther}
use Rattle.grammar.proofs.Found.{Facts}
use Rattle.op_text.specs.declared.fault.OpsKind.{OpsKind}
use Rattle.op_text.specs.declared.fault.OpsKind.TheVariants.{Lex, Syntax, BadName, Twice, Unknown}
use Rattle.op_text.specs.declared.fault.OpsKind.TheVariants.{NoResult, TooMany}
use Rattle.op_text.specs.declared.fault.OpsKind.TheVariants as why
use Rattle.op_text.specs.declared.terminal.Terminal.{Terminal}
use Rattle.op_text.specs.declared.terminal.Terminal.TheVariants as t
use Rattle.op_text.specs.declared.terminal.Spelling.{Spelling}
use Rattle.op_text.specs.declared.terminal.Spelling.TheVariants as sp
use Rattle.op_text.specs.declared.gate.Gate.{Gate}
use Rattle.op_text.specs.declared.tree.Kind.{Kind}
use Rattle.op_text.specs.declared.word_ops.WordOp.{WordOp}
use Rattle.op_text.specs.Items.{terminal_of}
use Rattle.op_text.specs.declared.wanted.Wanted.{Wanted}
use Rattle.op_text.specs.declared.wanted.Wanted.TheVariants.{Ops, NewOp, NewParam}
use Rattle.op_text.specs.declared.wanted.Wanted.TheVariants.{NewResult}
use Rattle.op_text.specs.declared.wanted.Wanted.TheVariants.{FirstStmt, Stmts, WordOpName, Args}
use Rattle.op_text.specs.declared.wanted.Wanted.TheVariants.{ArgName, MoreArgs, WordEnd}
use Rattle.op_text.specs.declared.wanted.Wanted.TheVariants.{States, StateName}
use Rattle.op_text.specs.declared.wanted.Wanted.TheVariants.{Lets, LetName}
use Rattle.op_text.specs.declared.wanted.Wanted.TheVariants.{Assigns, Value, More}
use Rattle.op_text.specs.declared.wanted.Wanted.TheVariants.{NewTarget}
use Rattle.op_text.specs.WordOps.{op_named, forms, filled}
use Rattle.op_text.specs.Rules.{Scope, rules_at, unless, op_rules, source_rules, naming_rules}
use Rattle.op_text.specs.Rules.{word_rules, second_rules, statement_rules, known_op}
use Rattle.op_text.specs.Rules.{argument_of_kind, gives_kind}
use Rattle.op_text.specs.Rules.{state_rules, target_rules, let_or_target, gate_named, gate_rules}
use Rattle.op_text.specs.Rules.{value_rules, comma_rules, close_rules, kind_among}
use Rattle.op_text.specs.Rules.{operation_texts}
use Rattle.op_text.specs.Trees.{IsText}
use Rattle.op_text.proofs.Complete.{alike, grammar}

-- a rule beside the grammar's
abbrev is_other : OpsKind → Bool
is_other Lex = false
is_other Syntax = false
is_other k = true

-- Where a rule is broken, it is another than the grammar's.
data IsOtherRule : Result Scope OpsKind → Type 0 where
  Passes : (s : Scope) → IsOtherRule (Ok s)
  Breaks : (k : OpsKind) → is_other k ≡ true → IsOtherRule (Err k)

other_is : (k : OpsKind) → IsOtherRule (Err k) → is_other k ≡ true
other_is k (Breaks _ h) = h

unless_no : (b : Bool) (k : OpsKind) (r : Result Scope OpsKind) → is_other k ≡ true → IsOtherRule r
    → IsOtherRule (unless b k r)
unless_no true k r h g = Breaks k h
unless_no false k r h g = g

known_no : (s : Scope) (p : Option WordOp) → IsOtherRule (known_op s p)
known_no s None = Breaks _ refl
known_no s (Some p) = unless_no _ why.Kind _ refl (Passes _)

argument_no : (s : Scope) (k : Option Kind) → IsOtherRule (argument_of_kind s k)
argument_no s None = Breaks _ refl
argument_no s (Some k) = unless_no _ why.Kind _ refl (Passes _)

gives_no : (s : Scope) (target : Option (List ℕ)) (k : Option Kind)
    → IsOtherRule (gives_kind s target k)
gives_no s target None = Breaks _ refl
gives_no s None (Some k) = Passes _
gives_no s (Some target) (Some k) = unless_no _ why.Kind _ refl (Passes _)

gate_no : (s : Scope) (g : Option Gate) → IsOtherRule (gate_rules s g)
gate_no s None = Breaks _ refl
gate_no s (Some g) = unless_no _ TooMany _ refl (Passes _)

comma_no : (s : Scope) (m : List ℕ) → IsOtherRule (comma_rules s m)
comma_no s [] = Breaks _ refl
comma_no s (zero ∷ m) = Breaks _ refl
comma_no s (suc n ∷ m) = Passes _

close_no : (s : Scope) (m : List ℕ) → IsOtherRule (close_rules s m)
close_no s [] = Breaks _ refl
close_no s (zero ∷ m) = Passes _
close_no s (suc n ∷ m) = Breaks _ refl

op_no : (s : Scope) (n : Spelling) (text : List ℕ) → IsOtherRule (op_rules s n text)
op_no s n text = unless_no _ BadName _ refl (unless_no _ Twice _ refl (Passes _))

source_no : (s : Scope) (n : Spelling) (text : List ℕ) → IsOtherRule (source_rules s n text)
source_no s n text = unless_no _ BadName _ refl (unless_no _ Twice _ refl
    (unless_no _ TooMany _ refl (Passes _)))

naming_no : (s : Scope) (n : Spelling) (text : List ℕ) → IsOtherRule (naming_rules s n text)
naming_no s n text = unless_no _ BadName _ refl (unless_no _ Twice _ refl (Passes _))

word_no : (s : Scope) (n : Spelling) (text : List ℕ) → IsOtherRule (word_rules s n text)
word_no s n text = unless_no _ BadName _ refl (unless_no _ Twice _ refl
    (unless_no _ TooMany _ refl (Passes _)))

second_no : (s : Scope) (n : Spelling) (text : List ℕ) → IsOtherRule (second_rules s n text)
second_no s n text = unless_no _ BadName _ refl (unless_no _ Twice _ refl (Passes _))

statement_no : (s : Scope) (n : Spelling) (text : List ℕ) → IsOtherRule (statement_rules s n text)
statement_no s sp.Serial text = unless_no _ TooMany _ refl (Passes _)
statement_no s sp.Plain text = word_no s sp.Plain text
statement_no s sp.Op text = word_no s sp.Op text
statement_no s sp.Word text = word_no s sp.Word text
statement_no s sp.Bit text = word_no s sp.Bit text
statement_no s sp.Up text = word_no s sp.Up text
statement_no s sp.Down text = word_no s sp.Down text
statement_no s sp.Let text = word_no s sp.Let text

state_no : (s : Scope) (n : Spelling) (text : List ℕ) → IsOtherRule (state_rules s n text)
state_no s n text = unless_no _ BadName _ refl (unless_no _ Twice _ refl
    (unless_no _ TooMany _ refl (Passes _)))

target_no : (s : Scope) (n : Spelling) (text : List ℕ) → IsOtherRule (target_rules s n text)
target_no s n text = unless_no _ BadName _ refl (unless_no _ Twice _ refl
    (unless_no _ why.Kind _ refl (unless_no _ TooMany _ refl (Passes _))))

line_no : (s : Scope) (n : Spelling) (text : List ℕ) → IsOtherRule (let_or_target s n text)
line_no s sp.Let text = unless_no _ TooMany _ refl (Passes _)
line_no s sp.Plain text = target_no s sp.Plain text
line_no s sp.Op text = target_no s sp.Op text
line_no s sp.Word text = target_no s sp.Word text
line_no s sp.Bit text = target_no s sp.Bit text
line_no s sp.Serial text = target_no s sp.Serial text
line_no s sp.Up text = target_no s sp.Up text
line_no s sp.Down text = target_no s sp.Down text

either_no : (o : Bool) (a b : Result Scope OpsKind) → IsOtherRule a → IsOtherRule b → IsOtherRule (cond o a b)
either_no true a b h k = h
either_no false a b h k = k

value_no : (s : Scope) (n : Spelling) (text : List ℕ) (o : Bool) → IsOtherRule (value_rules s n text o)
value_no s n text o = unless_no _ BadName _ refl (either_no o _ _ (gate_no s (gate_named text))
    (unless_no _ Unknown _ refl (Passes _)))

rules_no : (want : Wanted) (s : Scope) (u : Terminal) (text : List ℕ) (o : Bool)
    → IsOtherRule (rules_at want s u text o)
rules_no Ops s (t.Name n) text o = unless_no _ TooMany _ refl (Passes _)
rules_no NewOp s (t.Name n) text o = op_no s n text
rules_no NewParam s (t.Name n) text o = source_no s n text
rules_no NewResult s (t.Name n) text o = naming_no s n text
rules_no FirstStmt s (t.Name n) text o = statement_no s n text
rules_no Stmts s (t.Name n) text o = statement_no s n text
rules_no Stmts s t.Finishes text o = unless_no _ NoResult _ refl (Passes _)
rules_no NewTarget s (t.Name n) text o = second_no s n text
rules_no WordOpName s (t.Name n) text o = unless_no _ BadName _ refl (known_no s (op_named text))
rules_no Args s (t.Name n) text o = unless_no _ BadName _ refl
    (argument_no s (kind_among s.op.defined text))
rules_no Args s t.Closes text o = unless_no _ why.Kind _ refl (Passes _)
rules_no ArgName s (t.Name n) text o = unless_no _ BadName _ refl
    (argument_no s (kind_among s.op.defined text))
rules_no MoreArgs s t.Comma text o = unless_no _ why.Kind _ refl (Passes _)
rules_no MoreArgs s t.Closes text o = unless_no _ why.Kind _ refl (Passes _)
rules_no WordEnd s t.Semi text o = gives_no s s.naming
    (filled (forms s.word.operation) s.word.given)
rules_no States s (t.Name n) text o = state_no s n text
rules_no StateName s (t.Name n) text o = state_no s n text
rules_no Lets s (t.Name n) text o = line_no s n text
rules_no LetName s (t.Name n) text o = naming_no s n text
rules_no Assigns s (t.Name n) text o = target_no s n text
rules_no Value s (t.Name n) text o = value_no s n text o
rules_no More s t.Comma text o = comma_no s s.block.missing
rules_no More s t.Closes text o = close_no s s.block.missing
rules_no _ s t.Zero text o = Passes _
rules_no _ s _ text o = Passes _

other_kind : (k : OpsKind) → is_other k ≡ true → IsOther operation_texts k
other_kind k h = (
  λ e. let f : is_other k ≡ false = ap is_other e in cc,
  λ e. let f : is_other k ≡ false = ap is_other e in cc,
)

pub facts : Facts operation_texts IsText
facts = record {
  grammar = grammar;
  alike = alike;
  others = λ w s u o k e. other_kind k (other_is k (subst IsOtherRule e
      (rules_no w s (terminal_of u.kind u.text) u.text o)));
}
