-- Which operations meet the rules.
use Rattle.std.specs.Prelude.{◌≡◌, ◌≤◌, ℕ, Bool, true, false, ◌||◌, List, [], ◌∷◌, ◌++◌, map}
use Rattle.std.specs.Prelude.{length, Option, Some, None, bytes_eq, codes}
use Rattle.op_text.specs.declared.tree.Kind.{Kind}
use Rattle.op_text.specs.declared.tree.Kind.TheVariants.{Word, Bit}
use Rattle.op_text.specs.declared.tree.Param.{Param}
use Rattle.op_text.specs.declared.word_ops.WordOp.{WordOp}
use Rattle.op_text.specs.Language.{Equation, Block, Statement, Compute, Visit, Operation}
use Rattle.op_text.specs.Language.{results, result_names}
use Rattle.op_text.specs.WordOps.{forms, filled, second_kind}
use Rattle.op_text.specs.Rules.{is_among, kind_among, is_known, MAX_OPS, MAX_SOURCES}
use Rattle.op_text.specs.Rules.{MAX_STATEMENTS, MAX_STATES, MAX_ASSIGNS, MAX_LETS, MAX_WEIGHT}
use Rattle.op_text.specs.Scratch.{kind_of, result_kind, state_names, word_names, block_weight}
use Rattle.op_text.specs.Scratch.{defines, body_defines}
use Rattle.op_text.specs.Spelling.{is_good, TermMeets, Each}

-- a name that is none of these
abbrev pub IsNew : List (List ℕ) → List ℕ → Type 0
IsNew names name = is_among names name ≡ false

-- no name stands twice
abbrev pub Differ : List (List ℕ) → Type 0
Differ [] = Unit {0}
Differ (name ∷ names) = IsNew names name × Differ names

-- a name that an op may give: not reserved and of at most 16 bytes
abbrev pub IsGood : List ℕ → Type 0
IsGood name = is_good name ≡ true

-- names without their kinds
abbrev pub names_of : List Param → List (List ℕ)
names_of known = map (λ (p : Param). p.name) known

-- the lets of a block, which only the block can read
abbrev pub let_names : Block → List (List ℕ)
let_names block = map (λ (e : Equation). e.name) block.lets

-- the targets of a block's assignments: states and new words
abbrev pub targets : Block → List (List ℕ)
targets block = map (λ (e : Equation). e.name) block.assigns

-- What stands before a statement: the names that can be read with their kinds, the lets of the
-- blocks before it, which cannot be read any more, and the op's results.
pub record Context : Type 0 where
  pub known : List Param
  pub lets : List (List ℕ)
  pub results : List Param

-- the names that are used up
abbrev pub used : Context → List (List ℕ)
used c = names_of c.known ++ c.lets

-- A new name of a kind, beside those used up. A result's is new until it is given, once, its own
-- kind.
pub record IsNewOf (names : List (List ℕ)) (results : List Param) (kind : Kind) (name : List ℕ) :
    Type 0 where
  pub good : IsGood name
  pub new : IsNew names name
  pub fits : (k : Kind) → kind_among results name ≡ Some k → k ≡ kind

-- a name that can be read, with its kind
abbrev pub IsKnown : List Param → List ℕ → Type 0
IsKnown known name = kind_among known name ≡ Some (kind_of known name)

-- a second target: a new name of a kind, other than the first target
pub record IsSecondTarget (c : Context) (target : List ℕ) (kind : Kind) (name : List ℕ) : Type 0
  where
    pub gives : IsNewOf (used c) c.results kind name
    pub other : bytes_eq target name ≡ false

-- there is a second target exactly where the operation has a second result, of this kind
abbrev pub SecondMeets : Context → List ℕ → Option (List ℕ) → Option Kind → Type 0
SecondMeets c target None None = Unit {0}
SecondMeets c target (Some name) (Some kind) = IsSecondTarget c target kind name
SecondMeets c target second kind = ⊥

-- "target = operation(arguments);" or "target, second = operation(arguments);"
pub record WordMeets (c : Context) (target : List ℕ) (second : Option (List ℕ)) (operation : WordOp)
    (args : List (List ℕ)) : Type 0 where
  pub known : Each (IsKnown c.known) args
  pub takes : filled (forms operation) (map (kind_of c.known) args)
      ≡ Some (result_kind c.known operation args)
  pub gives : IsNewOf (used c) c.results (result_kind c.known operation args) target
  pub others : SecondMeets c target second (second_kind operation)

-- the names that an expression in a block can read: those known, and these of the block
abbrev pub can_read : List Param → List (List ℕ) → List ℕ → Bool
can_read known inside name = is_known (kind_among known name) || is_among inside name

-- each let reads what is known, and what stands in the block before it
abbrev pub LetsRead : List Param → List (List ℕ) → List Equation → Type 0
LetsRead known inside [] = Unit {0}
LetsRead known inside (e ∷ lets) = TermMeets (can_read known inside) 0 e.value
    × LetsRead known (inside ++ e.name ∷ []) lets

-- a let's name is never a result's
pub record IsNewLet (names : List (List ℕ)) (results : List Param) (name : List ℕ) : Type 0 where
  pub good : IsGood name
  pub new : IsNew names name
  pub other : IsNew (names_of results) name

-- a serial block: an assigned name is a state of the block, or a new word
pub record BlockMeets (c : Context) (block : Block) : Type 0 where
  pub few_states : length block.states ≤ MAX_STATES
  pub few_lets : length block.lets ≤ MAX_LETS
  pub has_assigns : 1 ≤ length block.assigns
  pub few_assigns : length block.assigns ≤ MAX_ASSIGNS
  pub light : block_weight block ≤ MAX_WEIGHT
  pub states : Each (IsNewOf (used c) c.results Bit) (state_names block)
  pub states_differ : Differ (state_names block)
  pub lets : Each (IsNewLet (used c ++ state_names block) c.results) (let_names block)
  pub lets_differ : Differ (let_names block)
  pub lets_read : LetsRead c.known (state_names block) block.lets
  pub words : Each (IsNewOf (used c ++ let_names block) c.results Word) (word_names block)
  pub targets_differ : Differ (targets block)
  pub values_read : Each (λ (e : Equation). TermMeets
      (can_read c.known (state_names block ++ let_names block)) 0 e.value) block.assigns

-- a statement meets the rules where it stands
abbrev pub StatementMeets : Context → Statement → Type 0
StatementMeets c (Compute target second operation args) = WordMeets c target second operation args
StatementMeets c (Visit block) = BlockMeets c block

-- the lets that a statement uses up the names of
abbrev pub lets_of : Statement → List (List ℕ)
lets_of (Compute target second operation args) = []
lets_of (Visit block) = let_names block

-- what stands after a statement
abbrev pub next_context : Context → Statement → Context
next_context c s = record {
  known = c.known ++ defines c.known s;
  lets = c.lets ++ lets_of s;
  results = c.results;
}

-- each statement meets the rules where it stands
abbrev pub BodyMeets : Context → List Statement → Type 0
BodyMeets c [] = Unit {0}
BodyMeets c (s ∷ body) = StatementMeets c s × BodyMeets (next_context c s) body

-- what stands before an op's first statement: its sources can be read, its results are to be given
abbrev pub at_start : Operation → Context
at_start op = record { known = op.params; lets = []; results = results op }

-- An op meets the rules: its names are good and differ, it has sources and statements and not too
-- many, and each statement meets them where it stands.
pub record OperationMeets (op : Operation) : Type 0 where
  pub name : IsGood op.name
  pub not_reserved : bytes_eq op.name (codes "trsp_init") ≡ false
  pub has_params : 1 ≤ length op.params
  pub few_params : length op.params ≤ MAX_SOURCES
  pub params : Each IsGood (names_of op.params)
  pub params_differ : Differ (names_of op.params)
  pub results_good : Each IsGood (result_names op)
  pub results_new : Each (IsNew (names_of op.params)) (result_names op)
  pub results_differ : Differ (result_names op)
  pub has_body : 1 ≤ length op.body
  pub few_statements : length op.body ≤ MAX_STATEMENTS
  pub body : BodyMeets (at_start op) op.body
  pub results_given : Each (λ (r : Param). kind_among (body_defines op.params op.body) r.name
      ≡ Some r.kind) (results op)

-- Ops meet the rules: each does, no two have one name, and there are not too many.
pub record OpsMeet (all : List Operation) : Type 0 where
  pub few_ops : length all ≤ MAX_OPS
  pub differ : Differ (map (λ (op : Operation). op.name) all)
  pub each : Each OperationMeets all
