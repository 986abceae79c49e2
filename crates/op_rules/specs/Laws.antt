-- The laws of the rules.
use Rattle.std.specs.Prelude.{◌≡◌, ◌≤◌, ℕ, List, ◌∷◌, ◌++◌, Option, Some, length}
use Rattle.std.specs.List.{flat_map}
use Rattle.std.specs.Option.{option_to_list}
use Rattle.op_text.specs.declared.tree.Kind.{Kind}
use Rattle.op_text.specs.declared.tree.Param.{Param}
use Rattle.op_text.specs.declared.word_ops.WordOp.{WordOp}
use Rattle.op_text.specs.Language.{Statement, Operation, results}
use Rattle.op_text.specs.Meaning.{NameValue, width, holds_nothing, after_statement, with_sources}
use Rattle.op_text.specs.Meaning.{after_body, after_op}
use Rattle.op_text.specs.Rules.{kind_among}
use Rattle.op_text.specs.Scratch.{defines, body_defines, scratch_names, scratch_bits, scratch_words}
use Rattle.op_text.specs.Spelling.{Each, HasOperation, MeetRules}
use Rattle.op_rules.specs.Meets.{IsNew, Differ, names_of, Context, lets_of, next_context}
use Rattle.op_rules.specs.Meets.{StatementMeets}
use Rattle.op_rules.specs.Meets.{WordMeets, OperationMeets, OpsMeet}

-- Ops whose names are names, and the tokens of whose text break no rule, meet the rules as trees.
abbrev pub RulesAreMet : Type 0
RulesAreMet = (all : List Operation) → Each HasOperation all → MeetRules all → OpsMeet all

-- as many names of a kind as an op can define: 16 statements, each of at most eight
abbrev pub MAX_NAMES : ℕ
MAX_NAMES = 128

-- as many rows of a kind as an op can need: its names, and two inside a statement
abbrev pub MAX_SCRATCH : ℕ
MAX_SCRATCH = 130

-- so many names of a kind other than the results, and so many rows of scratch
pub record NeedsFew (op : Operation) : Type 0 where
  pub names : (k : Kind) → scratch_names k op ≤ MAX_NAMES
  pub bits : scratch_bits op ≤ MAX_SCRATCH
  pub words : scratch_words op ≤ MAX_SCRATCH

-- An op that meets the rules needs few rows of scratch.
abbrev pub ScratchIsSmall : Type 0
ScratchIsSmall = (op : Operation) → OperationMeets op → NeedsFew op

-- all names of an op, the lets aside
abbrev pub all_names : Operation → List Param
all_names op = op.params ++ body_defines op.params op.body

-- No name stands twice, so each is found with its kind.
pub record NamesAreApart (op : Operation) : Type 0 where
  pub differ : Differ (names_of (all_names op))
  pub found : Each (λ (p : Param). kind_among (all_names op) p.name ≡ Some p.kind) (all_names op)

-- In an op that meets the rules no name stands twice.
abbrev pub NamesStandOnce : Type 0
NamesStandOnce = (op : Operation) → OperationMeets op → NamesAreApart op

-- what stands after the first statements of an op
abbrev pub context_at : Operation → List Statement → Context
context_at op front = record {
  known = op.params ++ body_defines op.params front;
  lets = flat_map lets_of front;
  results = results op;
}

-- Each statement of an op that meets the rules meets them where it stands.
abbrev pub StatementsMeet : Type 0
StatementsMeet = (op : Operation) (front rest : List Statement) (s : Statement) → OperationMeets op
    → op.body ≡ front ++ s ∷ rest → StatementMeets (context_at op front) s

-- The targets of a word statement differ, and none is an argument.
abbrev pub TargetsAreApart : Type 0
TargetsAreApart = (c : Context) (target : List ℕ) (second : Option (List ℕ)) (p : WordOp)
    (args : List (List ℕ)) → WordMeets c target second p args
    → Differ (target ∷ option_to_list second) × Each (IsNew args) (target ∷ option_to_list second)

-- A statement leaves each name as it was that it does not define.
abbrev pub OthersStay : Type 0
OthersStay = (known : List Param) (s : Statement) (n : ℕ) (names : List ℕ → NameValue)
    (name : List ℕ)
    → IsNew (names_of (defines known s)) name → after_statement n names s name ≡ names name

-- bits of a kind, as many as it has at width n
pub record IsHeld (n : ℕ) (k : Kind) (h : NameValue) : Type 0 where
  pub kind : h.kind ≡ k
  pub size : length h.bits ≡ width n k

-- a name holds bits of its kind at width n
abbrev pub Holds : ℕ → (List ℕ → NameValue) → Param → Type 0
Holds n names p = IsHeld n p.kind (names p.name)

-- Where the names known hold bits of their kinds, they and the names defined do so after a
-- statement.
abbrev pub KindsAreKept : Type 0
KindsAreKept = (c : Context) (s : Statement) (n : ℕ) (names : List ℕ → NameValue)
    → StatementMeets c s
    → Each (Holds n names) c.known → Each (Holds n (after_statement n names s)) (next_context c
    s).known

-- After the first statements of an op the names that are then known hold bits of their kinds, and
-- after all of them the results do.
pub record HoldsKinds (op : Operation) (n : ℕ) (values : List ℕ) : Type 0 where
  pub following : (front rest : List Statement) → op.body ≡ front ++ rest
      → Each (Holds n (after_body n front (with_sources n holds_nothing op.params values)))
      (context_at op front).known
  pub at_end : Each (Holds n (after_op op n values)) (results op)

-- In an op that meets the rules each name known and each result holds bits of its kind.
abbrev pub KindsAreHeld : Type 0
KindsAreHeld = (op : Operation) (n : ℕ) (values : List ℕ) → OperationMeets op
    → length values ≡ length op.params → HoldsKinds op n values
