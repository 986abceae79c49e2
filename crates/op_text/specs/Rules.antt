-- Which texts are accepted, and the first token that breaks a rule.
use Rattle.std.specs.Prelude.{ℕ, zero, suc, ◌+◌, ◌-◌, Bool, true, false, ◌&&◌, ◌||◌, not, nat_lt}
use Rattle.std.specs.Prelude.{nat_le, List, [], ◌∷◌, ◌++◌, length, map, filter, Option, Some, None}
use Rattle.std.specs.Prelude.{Result, Ok, Err, bytes_eq, codes, if◌then◌else◌}
use Rattle.std.specs.List.{list_any}
use Rattle.text_lex.specs.Lexical.{Item}
use Rattle.text_lex.specs.Spelled.{fits_name}
use Rattle.op_text.specs.declared.fault.OpsKind.{OpsKind}
use Rattle.grammar.specs.Machine as machine
use Rattle.grammar.specs.Machine.{Language}
use Rattle.op_text.specs.declared.fault.OpsKind.TheVariants.{Lex, Syntax, BadName, Twice, Unknown}
use Rattle.op_text.specs.declared.fault.OpsKind.TheVariants.{NoResult, TooMany}
use Rattle.op_text.specs.declared.fault.OpsKind.TheVariants as why
use Rattle.op_text.specs.declared.terminal.Terminal.{Terminal}
use Rattle.op_text.specs.declared.terminal.Terminal.TheVariants as t
use Rattle.op_text.specs.declared.terminal.Spelling.{Spelling}
use Rattle.op_text.specs.declared.terminal.Spelling.TheVariants as sp
use Rattle.op_text.specs.declared.gate.Gate.{Gate}
use Rattle.op_text.specs.declared.gate.Gate.TheVariants as gates
use Rattle.op_text.specs.declared.tree.Kind.{Kind}
use Rattle.op_text.specs.declared.tree.Kind.TheVariants.{Word, Bit}
use Rattle.op_text.specs.declared.tree.Param.{Param}
use Rattle.op_text.specs.declared.word_ops.WordOp.{WordOp}
use Rattle.op_text.specs.declared.word_ops.WordOp.TheVariants as o
use Rattle.op_text.specs.Items.{Breach, terminal_of, is_opening}
use Rattle.op_text.specs.declared.wanted.Wanted.{Wanted}
use Rattle.op_text.specs.declared.wanted.Wanted.TheVariants.{Ops, NewOp, NewParam, ParamKind}
use Rattle.op_text.specs.declared.wanted.Wanted.TheVariants.{NewResult, ResultKind, FirstStmt}
use Rattle.op_text.specs.declared.wanted.Wanted.TheVariants.{Stmts, WordOpName, Args, ArgName}
use Rattle.op_text.specs.declared.wanted.Wanted.TheVariants.{MoreArgs, WordEnd, States, StateName}
use Rattle.op_text.specs.declared.wanted.Wanted.TheVariants.{Lets, LetName, LetEnd, Assigns, Value}
use Rattle.op_text.specs.declared.wanted.Wanted.TheVariants.{More, NewTarget}
use Rattle.op_text.specs.Grammar.{follow}
use Rattle.op_text.specs.WordOps.{forms, op_named, lacks, is_begun, is_part, is_whole, filled}
use Rattle.op_text.specs.WordOps.{same_kind, second_kind, second_gives}

-- the limits
abbrev pub MAX_OPS : ℕ
MAX_OPS = 32

-- four sources at most: an entry of a program file has a bit for the kind of each
abbrev pub MAX_SOURCES : ℕ
MAX_SOURCES = 4

-- so many statements an op may have at most
abbrev pub MAX_STATEMENTS : ℕ
MAX_STATEMENTS = 16

-- so many states, and with MAX_ASSIGNS so many targets, a block may have at most
abbrev pub MAX_STATES : ℕ
MAX_STATES = 8

-- so many targets a block may have, each once
abbrev pub MAX_ASSIGNS : ℕ
MAX_ASSIGNS = 8

-- so many lets a block may have
abbrev pub MAX_LETS : ℕ
MAX_LETS = 16

-- a block's gates weigh at most so much in all, an xor as three of the others
abbrev pub MAX_WEIGHT : ℕ
MAX_WEIGHT = 24

-- so many gates may stand within one another
abbrev pub MAX_DEPTH : ℕ
MAX_DEPTH = 32

-- What stands before a token, within the op: each new name, the names that can be read with their
-- kinds (the sources alone while these are read), the results, and the number of statements.
pub record InOp : Type 0 where
  pub stands : List (List ℕ)
  pub defined : List Param
  pub results : List Param
  pub statements : ℕ

-- within a word statement: its second target, if it has one, its operation and the kinds of the
-- arguments so far
pub record InWord : Type 0 where
  pub second : Option (List ℕ)
  pub operation : WordOp
  pub given : List Kind

-- within a serial block: its states, the states and lets that can be read, the number of lets, the
-- targets, the weight of the gates, and how many arguments each open gate still lacks, the
-- innermost first
pub record InBlock : Type 0 where
  pub states : List (List ℕ)
  pub readable : List (List ℕ)
  pub lets : ℕ
  pub targets : List (List ℕ)
  pub weight : ℕ
  pub missing : List ℕ

-- What stands before a token: the ops, what stands within the op, statement and block, and the
-- parameter, result, let or word statement's first target that is being defined, if any.
pub record Scope : Type 0 where
  pub ops : List (List ℕ)
  pub op : InOp
  pub word : InWord
  pub block : InBlock
  pub naming : Option (List ℕ)

-- where an op begins, no name stands and no statement was read
abbrev pub new_op : InOp
new_op = record { stands = []; defined = []; results = []; statements = 0 }

-- where a word statement begins, it has no argument yet. Its operation is read before it is asked
-- for
abbrev pub new_word : InWord
new_word = record { second = None; operation = o.Not; given = [] }

-- where a block begins, nothing of it stands and its gates weigh nothing
abbrev pub new_block : InBlock
new_block = record { states = []; readable = []; lets = 0; targets = []; weight = 0; missing = [] }

-- what stands before the first token of a text
abbrev pub nothing_yet : Scope
nothing_yet = record { ops = []; op = new_op; word = new_word; block = new_block; naming = None }

-- whether a name is one of these, byte by byte
abbrev pub is_among : List (List ℕ) → List ℕ → Bool
is_among names name = list_any (λ n. bytes_eq n name) names

-- the kind under which a name stands, or none where it does not stand
abbrev pub kind_among : List Param → List ℕ → Option Kind
kind_among [] name = None
kind_among (p ∷ ps) name = if bytes_eq p.name name then Some p.kind else kind_among ps name

-- whether a name that was looked up stands
abbrev pub is_known : Option Kind → Bool
is_known (Some k) = true
is_known None = false

-- a rule: where it is broken, that is the answer
abbrev pub unless : Bool → OpsKind → Result Scope OpsKind → Result Scope OpsKind
unless broken kind rest = if broken then Err kind else rest

-- a name that is too long or reserved
abbrev pub is_plain : Spelling → Bool
is_plain sp.Plain = true
is_plain n = false

-- a name that no op may define or use: it is reserved, or has more than 16 bytes
abbrev pub is_bad : Spelling → List ℕ → Bool
is_bad n text = not (is_plain n && fits_name text)

-- whether the op has the name already: as a source, result, target, state or let
abbrev pub stands_already : Scope → List ℕ → Bool
stands_already s text = is_among s.op.stands text

-- whether it is the name of the first target, which the second may not have
abbrev pub is_called : Option (List ℕ) → List ℕ → Bool
is_called None text = false
is_called (Some name) text = bytes_eq name text

-- whether a name that was looked up stands, and with this kind
abbrev pub is_of_kind : Option Kind → Kind → Bool
is_of_kind None k = false
is_of_kind (Some j) k = same_kind j k

-- whether the op lists it among its results
abbrev pub is_result : Scope → List ℕ → Bool
is_result s text = is_known (kind_among s.op.results text)

-- whether it is a result of one bit, which a block assigns only where it is a state
abbrev pub is_bit_result : Scope → List ℕ → Bool
is_bit_result s text = is_of_kind (kind_among s.op.results text) Bit

-- a name that can be read; a result can be once it is assigned
abbrev pub is_assigned : Scope → List ℕ → Bool
is_assigned s text = is_known (kind_among s.op.defined text)

-- whether it is a result that still wants its value
abbrev pub is_open_result : Scope → List ℕ → Bool
is_open_result s text = is_result s text && not (is_assigned s text)

-- the name of an op
abbrev pub op_rules : Scope → Spelling → List ℕ → Result Scope OpsKind
op_rules s n text =
    unless (is_bad n text || bytes_eq text (codes "trsp_init")) BadName
    (unless (is_among s.ops text) Twice
    (Ok (record s { ops = s.ops ++ text ∷ []; op = new_op })))

-- the name of a source
abbrev pub source_rules : Scope → Spelling → List ℕ → Result Scope OpsKind
source_rules s n text =
    unless (is_bad n text) BadName
    (unless (stands_already s text) Twice
    (unless (nat_le MAX_SOURCES (length s.op.defined)) TooMany
    (Ok (record s { naming = Some text }))))

-- the named source has this kind
abbrev pub source_of_kind : Scope → Option (List ℕ) → Kind → Scope
source_of_kind s None k = s
source_of_kind s (Some name) k =
    record s {
      op = record s.op {
        stands = s.op.stands ++ name ∷ [];
        defined = s.op.defined
            ++ record { name = name; kind = k } ∷ [];
      };
      naming = None;
    }

-- the kind of a source is read: it stands from now on, and can be read
abbrev pub with_source : Scope → Kind → Scope
with_source s k = source_of_kind s s.naming k

-- the name of a result, or of a let
abbrev pub naming_rules : Scope → Spelling → List ℕ → Result Scope OpsKind
naming_rules s n text =
    unless (is_bad n text) BadName
    (unless (stands_already s text) Twice
    (Ok (record s { op = record s.op { stands = s.op.stands ++ text ∷ [] }; naming = Some text })))

-- the named result, which is the first or the second, has this kind
abbrev pub result_of_kind : Scope → Option (List ℕ) → Kind → Scope
result_of_kind s None k = s
result_of_kind s (Some name) k =
    record s {
      op = record s.op { results = s.op.results ++ record { name = name; kind = k } ∷ [] };
      naming = None;
    }

-- the kind of a result is read: the body has to assign it
abbrev pub with_result : Scope → Kind → Scope
with_result s k = result_of_kind s s.naming k

-- the word "serial"
abbrev pub block_rules : Scope → Result Scope OpsKind
block_rules s =
    unless (nat_le MAX_STATEMENTS s.op.statements) TooMany
    (Ok (record s { op = record s.op { statements = s.op.statements + 1 }; block = new_block }))

-- a target of a word statement that stands as another name than an open result
abbrev pub is_taken_name : Scope → List ℕ → Bool
is_taken_name s text = stands_already s text && not (is_open_result s text)

-- the first target of a word statement
abbrev pub word_rules : Scope → Spelling → List ℕ → Result Scope OpsKind
word_rules s n text =
    unless (is_bad n text) BadName
    (unless (is_taken_name s text) Twice
    (unless (nat_le MAX_STATEMENTS s.op.statements) TooMany
    (Ok (record s { op = record s.op { statements = s.op.statements + 1 }; naming = Some text }))))

-- the first token of a statement, which tells a block from a word operation
abbrev pub statement_rules : Scope → Spelling → List ℕ → Result Scope OpsKind
statement_rules s sp.Serial text = block_rules s
statement_rules s n text = word_rules s n text

-- the second target of a word statement, which is not spelled as the first
abbrev pub second_rules : Scope → Spelling → List ℕ → Result Scope OpsKind
second_rules s n text =
    unless (is_bad n text) BadName
    (unless (is_called s.naming text || is_taken_name s text) Twice
    (Ok (record s { word = record s.word { second = Some text } })))

-- a second target stands exactly where the operation has a second result
abbrev pub has_targets : Option (List ℕ) → Option Kind → Bool
has_targets None None = true
has_targets (Some name) (Some k) = true
has_targets name k = false

-- the operation of a word statement: it exists, and has as many results as there are targets
abbrev pub known_op : Scope → Option WordOp → Result Scope OpsKind
known_op s None = Err Unknown
known_op s (Some p) =
    unless (not (has_targets s.word.second (second_kind p))) why.Kind
    (Ok (record s { word = record s.word { operation = p } }))

-- the name of the operation, which is a name and one of the table
abbrev pub word_op_rules : Scope → Spelling → List ℕ → Result Scope OpsKind
word_op_rules s n text = unless (is_bad n text) BadName (known_op s (op_named text))

-- an argument that stands: a form of the operation goes on with its kind
abbrev pub argument_of_kind : Scope → Option Kind → Result Scope OpsKind
argument_of_kind s None = Err Unknown
argument_of_kind s (Some k) =
    unless (not (list_any (λ f. is_begun (lacks (s.word.given ++ k ∷ []) f.takes))
    (forms s.word.operation))) why.Kind
    (Ok (record s { word = record s.word { given = s.word.given ++ k ∷ [] } }))

-- an argument
abbrev pub argument_rules : Scope → Spelling → List ℕ → Result Scope OpsKind
argument_rules s n text = unless (is_bad n text) BadName
    (argument_of_kind s (kind_among s.op.defined text))

-- "," after an argument: a form of the operation takes one more
abbrev pub another_argument : Scope → Result Scope OpsKind
another_argument s =
    unless (not (list_any (λ f. is_part (lacks s.word.given f.takes)) (forms s.word.operation)))
    why.Kind (Ok s)

-- ")" after the arguments: a form of the operation has just these
abbrev pub no_more_arguments : Scope → Result Scope OpsKind
no_more_arguments s =
    unless (not (list_any (λ f. is_whole (lacks s.word.given f.takes)) (forms s.word.operation)))
    why.Kind (Ok s)

-- a second target with its kind, if there is one
abbrev pub second_of : Option (List ℕ) → WordOp → List Param
second_of None p = []
second_of (Some name) p = record { name = name; kind = second_gives p } ∷ []

-- a result of another kind than this
abbrev pub is_other_result : Scope → Param → Bool
is_other_result s p =
    is_result s p.name && not (is_of_kind (kind_among s.op.results p.name) p.kind)

-- the ";" of a word statement, whose targets are now names of the kinds that its operation gives
abbrev pub defines_targets : Scope → List Param → Result Scope OpsKind
defines_targets s targets =
    unless (list_any (is_other_result s) targets) why.Kind
    (Ok (record s {
      op = record s.op {
        stands = s.op.stands ++ map (λ p. p.name) targets;
        defined = s.op.defined ++ targets;
      };
      word = new_word;
      naming = None;
    }))

-- the targets of a word statement take the kinds that its arguments settle
abbrev pub gives_kind : Scope → Option (List ℕ) → Option Kind → Result Scope OpsKind
gives_kind s target None = Err why.Kind
gives_kind s None (Some k) = Ok s
gives_kind s (Some target) (Some k) =
    defines_targets s (record { name = target; kind = k }
    ∷ second_of s.word.second s.word.operation)

-- ";" ends a word statement: its targets can be read from now on
abbrev pub word_end : Scope → Result Scope OpsKind
word_end s = gives_kind s s.naming (filled (forms s.word.operation) s.word.given)

-- a state that is a bit result is no new name
abbrev pub is_taken_state : Scope → List ℕ → Bool
is_taken_state s text =
    if is_bit_result s text then is_assigned s text || is_among s.block.states text
    else stands_already s text

-- the name of a state of the block: new, or a result of one bit
abbrev pub state_rules : Scope → Spelling → List ℕ → Result Scope OpsKind
state_rules s n text =
    unless (is_bad n text) BadName
    (unless (is_taken_state s text) Twice
    (unless (nat_le MAX_STATES (length s.block.states)) TooMany
    (Ok (record s {
      op = record s.op { stands = s.op.stands ++ text ∷ [] };
      block = record s.block {
        states = s.block.states ++ text ∷ [];
        readable = s.block.readable
            ++ text ∷ [];
      };
    }))))

-- the word "let"
abbrev pub let_rules : Scope → Result Scope OpsKind
let_rules s =
    unless (nat_le MAX_LETS s.block.lets) TooMany
    (Ok (record s { block = record s.block { lets = s.block.lets + 1 } }))

-- the ";" of a let, which can be read from now on
abbrev pub let_ends : Scope → Option (List ℕ) → Scope
let_ends s None = s
let_ends s (Some name) = record s {
  block = record s.block {
    readable = s.block.readable ++ name
        ∷ [];
  };
  naming = None;
}

-- ";" ends a let, whose name can be read from now on
abbrev pub let_end : Scope → Scope
let_end s = let_ends s s.naming

-- a serial target that is assigned already, or that stands as another name than a state of the
-- block or an open result
abbrev pub is_taken_target : Scope → List ℕ → Bool
is_taken_target s text =
    is_among s.block.targets text || (stands_already s text && not (is_among s.block.states text)
    && not (is_open_result s text))

-- the target of an assignment, which takes a bit at each position; no block assigns one twice
abbrev pub target_rules : Scope → Spelling → List ℕ → Result Scope OpsKind
target_rules s n text =
    unless (is_bad n text) BadName
    (unless (is_taken_target s text) Twice
    (unless (is_bit_result s text && not (is_among s.block.states text)) why.Kind
    (unless (nat_le MAX_ASSIGNS (length s.block.targets)) TooMany
    (Ok (record s { block = record s.block { targets = s.block.targets ++ text ∷ [] } })))))

-- the first token of a line of a block, which tells a let from an assignment
abbrev pub let_or_target : Scope → Spelling → List ℕ → Result Scope OpsKind
let_or_target s sp.Let text = let_rules s
let_or_target s n text = target_rules s n text

-- the "}" of a block: its states are bit names now, and its other targets are word names
abbrev pub block_end : Scope → Scope
block_end s =
    let words = filter (λ n. not (is_among s.block.states n)) s.block.targets in
    record s {
      op = record s.op {
        stands = s.op.stands ++ words;
        defined = s.op.defined ++ map (λ n. record { name = n; kind = Bit }) s.block.states
            ++ map (λ n. record { name = n; kind = Word }) words;
      };
      block = new_block;
    }

-- the gate of a name, as values spell it
abbrev pub gate_named : List ℕ → Option Gate
gate_named name =
    if bytes_eq name (codes "not") then Some gates.Not
    else (if bytes_eq name (codes "and") then Some gates.And
    else (if bytes_eq name (codes "or") then Some gates.Or
    else (if bytes_eq name (codes "xor") then Some gates.Xor
    else (if bytes_eq name (codes "maj") then Some gates.Maj else None))))

-- how many values a gate takes
abbrev pub gate_arguments : Gate → ℕ
gate_arguments gates.Not = 1
gate_arguments gates.And = 2
gate_arguments gates.Or = 2
gate_arguments gates.Xor = 2
gate_arguments gates.Maj = 3

-- what a gate adds to its block's weight: one for each majority that it costs, and none for a
-- complement
abbrev pub gate_weight : Gate → ℕ
gate_weight gates.Not = 0
gate_weight gates.And = 1
gate_weight gates.Or = 1
gate_weight gates.Xor = 3
gate_weight gates.Maj = 1

-- a gate: its block stays within its weight, and values within their depth
abbrev pub gate_rules : Scope → Option Gate → Result Scope OpsKind
gate_rules s None = Err Unknown
gate_rules s (Some g) =
    unless (nat_lt MAX_WEIGHT (s.block.weight + gate_weight g)
    || nat_le MAX_DEPTH (length s.block.missing)) TooMany
    (Ok (record s {
      block = record s.block {
        weight = s.block.weight + gate_weight g;
        missing = (gate_arguments g - 1) ∷ s.block.missing;
      };
    }))

-- whether a value may read the name: one of the op that has its value, or a state or let of the
-- block
abbrev pub is_readable : Scope → List ℕ → Bool
is_readable s text = is_known (kind_among s.op.defined text) || is_among s.block.readable text

-- a name in a value: a gate where an opening parenthesis follows, else a name that is read
abbrev pub value_rules : Scope → Spelling → List ℕ → Bool → Result Scope OpsKind
value_rules s n text opened =
    unless (is_bad n text) BadName
    (if opened then gate_rules s (gate_named text)
    else unless (not (is_readable s text)) Unknown (Ok s))

-- "," within a gate, which still lacks an argument
abbrev pub comma_rules : Scope → List ℕ → Result Scope OpsKind
comma_rules s [] = Err why.Kind
comma_rules s (zero ∷ outer) = Err why.Kind
comma_rules s (suc n ∷ outer) = Ok (record s { block = record s.block { missing = n ∷ outer } })

-- ")" of a gate, which has all of its arguments
abbrev pub close_rules : Scope → List ℕ → Result Scope OpsKind
close_rules s [] = Err why.Kind
close_rules s (zero ∷ outer) = Ok (record s { block = record s.block { missing = outer } })
close_rules s (suc n ∷ outer) = Err why.Kind

-- the "}" of an op, all of whose results are assigned
abbrev pub op_end : Scope → Result Scope OpsKind
op_end s =
    unless (list_any (λ (p : Param). not (is_assigned s p.name)) s.op.results) NoResult
    (Ok (record s { op = new_op }))

-- the kind that a word of the text stands for
abbrev pub kind_of_word : Spelling → Kind
kind_of_word sp.Word = Word
kind_of_word n = Bit

-- The rules other than the grammar's at a token that the grammar allows: the first that it breaks,
-- in the order of their numbers, or the scope after it.
abbrev pub rules_at : Wanted → Scope → Terminal → List ℕ → Bool → Result Scope OpsKind
rules_at Ops s (t.Name n) text o = unless (nat_le MAX_OPS (length s.ops)) TooMany (Ok s)
rules_at NewOp s (t.Name n) text o = op_rules s n text
rules_at NewParam s (t.Name n) text o = source_rules s n text
rules_at ParamKind s (t.Name n) text o = Ok (with_source s (kind_of_word n))
rules_at NewResult s (t.Name n) text o = naming_rules s n text
rules_at ResultKind s (t.Name n) text o = Ok (with_result s (kind_of_word n))
rules_at FirstStmt s (t.Name n) text o = statement_rules s n text
rules_at Stmts s (t.Name n) text o = statement_rules s n text
rules_at Stmts s t.Finishes text o = op_end s
rules_at NewTarget s (t.Name n) text o = second_rules s n text
rules_at WordOpName s (t.Name n) text o = word_op_rules s n text
rules_at Args s (t.Name n) text o = argument_rules s n text
rules_at Args s t.Closes text o = no_more_arguments s
rules_at ArgName s (t.Name n) text o = argument_rules s n text
rules_at MoreArgs s t.Comma text o = another_argument s
rules_at MoreArgs s t.Closes text o = no_more_arguments s
rules_at WordEnd s t.Semi text o = word_end s
rules_at States s (t.Name n) text o = state_rules s n text
rules_at StateName s (t.Name n) text o = state_rules s n text
rules_at Lets s (t.Name n) text o = let_or_target s n text
rules_at LetName s (t.Name n) text o = naming_rules s n text
rules_at LetEnd s t.Semi text o = Ok (let_end s)
rules_at Assigns s (t.Name n) text o = target_rules s n text
rules_at Assigns s t.Finishes text o = Ok (block_end s)
rules_at Value s (t.Name n) text o = value_rules s n text o
rules_at More s t.Comma text o = comma_rules s s.block.missing
rules_at More s t.Closes text o = close_rules s s.block.missing
rules_at w s u text o = Ok s

-- the text may end where an op is wanted
abbrev pub may_end : Wanted → Bool
may_end Ops = true
may_end w = false

-- Operation texts, as a language. The "(" after a name makes it a gate.
abbrev pub operation_texts : Language Wanted Terminal Scope OpsKind
operation_texts = record {
  seen = λ u. terminal_of u.kind u.text;
  opens = is_opening;
  follow = follow;
  rules = λ w s u opened. rules_at w s (terminal_of u.kind u.text) u.text opened;
  first = Ops;
  may_end = may_end;
  lex = Lex;
  syntax = Syntax;
}

-- the grammar is asked first, and the other rules only where it allows the token
abbrev pub with_rules : Option (List Wanted) → Result Scope OpsKind
    → Result (List Wanted × Scope) OpsKind
with_rules wanted rules = machine.with_rules Syntax wanted rules

-- a token, where this is wanted
abbrev pub step : Wanted → Scope → Terminal → List ℕ → Bool → Result (List Wanted × Scope) OpsKind
step w s u text opened = with_rules (follow w u opened) (rules_at w s u text opened)

-- The first token that breaks a rule, if any, where all this is wanted.
abbrev pub breach_of : List Wanted → Scope → List Item → Option Breach
breach_of wanted s items = machine.breach_of operation_texts wanted s items

-- the first token of a text that breaks a rule, if any
abbrev pub first_breach : List Item → Option Breach
first_breach items = breach_of (Ops ∷ []) nothing_yet items
