-- Where the names of a statement lie.
use Rattle.std.specs.Prelude.{◌≡◌, ◌⊎◌, ℕ, ◌+◌, ◌<◌, ◌≤◌, Bool, true, false, not, ◌&&◌, ◌||◌}
use Rattle.std.specs.Prelude.{List, [], ◌∷◌, ◌++◌, map, filter, length, Option, Some, None}
use Rattle.std.specs.Prelude.{is_some, bytes_eq}
use Rattle.std.specs.List.{AllByRecursion}
use Rattle.std.specs.Option.{option_to_list}
use Rattle.indexmap.specs.IndexMap.{get}
use Rattle.op_text.specs.declared.tree.Kind.{Kind}
use Rattle.op_text.specs.declared.tree.Kind.TheVariants.{Word, Bit}
use Rattle.op_text.specs.declared.word_ops.WordOp.{WordOp}
use Rattle.op_text.specs.Language.{Term, Nought, Unity, Named, Negation, Conjunction, Disjunction}
use Rattle.op_text.specs.Language.{Parity, Majority, Equation, Block, Statement, Compute, Visit}
use Rattle.op_text.specs.Rules.{is_among, MAX_STATES, MAX_LETS, MAX_ASSIGNS, MAX_WEIGHT}
use Rattle.op_text.specs.Spelling.{TermMeets}
use Rattle.op_text.specs.WordOps.{forms, filled, second_kind}
use Rattle.op_text.specs.Scratch.{bits_inside, words_inside, need_inside, block_weight, state_names}
use Rattle.op_text.specs.Scratch.{word_names}
use Rattle.loop_ir.specs.declared.ir.Space.{Space}
use Rattle.loop_ir.specs.declared.ir.Space.TheVariants.{Result, Source, ScratchBit, ScratchWord}
use Rattle.loop_ir.specs.declared.ir.Space.TheVariants.{Cells}
use Rattle.loop_ir.specs.declared.names.Slot.{Slot}
use Rattle.loop_ir.specs.declared.names.NameMap.{NameMap}
use Rattle.loop_ir.specs.Spots.{IsOwn}

-- the places of names
abbrev pub Slots : Type 0
Slots = List ℕ → Option Slot

-- the places that a map of the code gives names
abbrev pub slots_of : NameMap → Slots
slots_of m name = get bytes_eq m.slots name

-- values of this kind lie in the space
abbrev pub holds_kind : Space → Kind → Bool
holds_kind Result k = true
holds_kind Source k = true
holds_kind ScratchBit Bit = true
holds_kind ScratchBit Word = false
holds_kind ScratchWord Word = true
holds_kind ScratchWord Bit = false
holds_kind Cells k = false

-- the name has a place, for a value of this kind
pub record HasKind (slots : Slots) (name : List ℕ) (k : Kind) : Type 0 where
  pub slot : Slot
  pub found : slots name ≡ Some slot
  pub kind : slot.kind ≡ k
  pub space : holds_kind slot.space k ≡ true

-- the names that an expression reads, in the order of the text
abbrev pub term_names : Term → List (List ℕ)
term_names Nought = []
term_names Unity = []
term_names (Named name) = name ∷ []
term_names (Negation a) = term_names a
term_names (Conjunction a b) = term_names a ++ term_names b
term_names (Disjunction a b) = term_names a ++ term_names b
term_names (Parity a b) = term_names a ++ term_names b
term_names (Majority a b c) = term_names a ++ term_names b ++ term_names c

-- the names that the expressions of lets or assignments read
abbrev pub equation_names : List Equation → List (List ℕ)
equation_names [] = []
equation_names (e ∷ es) = term_names e.value ++ equation_names es

-- the names that lets or assignments give values
abbrev pub targets_of : List Equation → List (List ℕ)
targets_of es = map (λ (e : Equation). e.name) es

-- the names other than lets that a block's expressions read
abbrev pub block_reads : Block → List (List ℕ)
block_reads b = filter (λ name. not (is_among (targets_of b.lets) name)) (equation_names b.lets
    ++ equation_names b.assigns)

-- the names that a statement reads as they stand before it: a block sets its states first
abbrev pub read_names : Statement → List (List ℕ)
read_names (Compute target second p args) = args
read_names (Visit b) = filter (λ name. not (is_among (state_names b) name)) (block_reads b)

-- the names that it sets
abbrev pub written_names : Statement → List (List ℕ)
written_names (Compute target second p args) = target ∷ option_to_list second
written_names (Visit b) = state_names b ++ word_names b

-- its names other than its lets
abbrev pub statement_names : Statement → List (List ℕ)
statement_names s = written_names s ++ read_names s

-- Its names have places, which differ, and are no internal scratch: the bits and words from the
-- first free ones on. What it sets is no source
pub record IsPlaced (slots : Slots) (free_bit free_word : ℕ) (s : Statement) : Type 0 where
  pub there : (name : List ℕ) → is_among (statement_names s) name ≡ true
      → (x : Slot) × (slots name ≡ Some x) × (holds_kind x.space x.kind ≡ true)
  pub differ : (a b : List ℕ) (x y : Slot) → is_among (statement_names s) a ≡ true
      → is_among (statement_names s) b ≡ true → slots a ≡ Some x → slots b ≡ Some y
      → x.space ≡ y.space → x.which ≡ y.which → bytes_eq a b ≡ true
  pub own : (name : List ℕ) (x : Slot) → is_among (written_names s) name ≡ true
      → slots name ≡ Some x → IsOwn x.space
  pub bit : (name : List ℕ) (x : Slot) → is_among (statement_names s) name ≡ true
      → slots name ≡ Some x → x.space ≡ ScratchBit → (x.which < free_bit)
      ⊎ (free_bit + need_inside bits_inside s ≤ x.which)
  pub word : (name : List ℕ) (x : Slot) → is_among (statement_names s) name ≡ true
      → slots name ≡ Some x → x.space ≡ ScratchWord → (x.which < free_word)
      ⊎ (free_word + need_inside words_inside s ≤ x.which)
  pub bits : free_bit + need_inside bits_inside s ≤ 256
  pub words : free_word + need_inside words_inside s ≤ 256

-- the arguments have these kinds
abbrev pub HaveKinds : Slots → List (List ℕ) → List Kind → Type 0
HaveKinds slots [] [] = Unit {0}
HaveKinds slots [] (k ∷ ks) = ⊥
HaveKinds slots (name ∷ names) [] = ⊥
HaveKinds slots (name ∷ names) (k ∷ ks) = HasKind slots name k × HaveKinds slots names ks

-- a second target has this kind, and is neither the first nor an argument
pub record IsSecondTarget (slots : Slots) (target : List ℕ) (args : List (List ℕ)) (kind : Kind)
    (name : List ℕ) : Type 0 where
  pub gives : HasKind slots name kind
  pub fresh : is_among args name ≡ false
  pub other : bytes_eq target name ≡ false

-- there is a second target exactly where the operation has a second result, of this kind
abbrev pub SecondMeets : Slots → List ℕ → List (List ℕ) → Option (List ℕ) → Option Kind → Type 0
SecondMeets slots target args None None = Unit {0}
SecondMeets slots target args (Some name) (Some kind) = IsSecondTarget slots target args kind name
SecondMeets slots target args second kind = ⊥

-- A word statement meets the rules: its arguments have the kinds of a form of its operation, the
-- target has the kind that the form gives, and is no argument; and so with a second target
pub record ComputeMeets (slots : Slots) (target : List ℕ) (second : Option (List ℕ)) (p : WordOp)
    (args : List (List ℕ)) : Type 0 where
  pub kinds : List Kind
  pub kind : Kind
  pub have : HaveKinds slots args kinds
  pub form : filled (forms p) kinds ≡ Some kind
  pub gives : HasKind slots target kind
  pub fresh : is_among args target ≡ false
  pub others : SecondMeets slots target args second (second_kind p)

-- each let reads names that can be read, and earlier lets; the assignments read all of these
abbrev pub LetsMeet : (List ℕ → Bool) → List Equation → List Equation → Type 0
LetsMeet readable [] assigns = AllByRecursion (λ (e : Equation). TermMeets readable 0 e.value)
    assigns
LetsMeet readable (l ∷ lets) assigns = TermMeets readable 0 l.value
    × LetsMeet (λ name. bytes_eq name l.name || readable name) lets assigns

-- no two names of a list are the same
abbrev pub AreDistinct : List (List ℕ) → Type 0
AreDistinct [] = Unit {0}
AreDistinct (name ∷ names) = (is_among names name ≡ false) × AreDistinct names

-- a block with these lets can read the name before its lets: it has a place and is no let
abbrev pub is_readable : Slots → List Equation → List ℕ → Bool
is_readable slots lets name = is_some (slots name) && not (is_among (targets_of lets) name)

-- A block meets the rules: its limits, its states with bits and its other targets with words that
-- it does not read
pub record BlockMeets (slots : Slots) (b : Block) : Type 0 where
  pub states : length b.states ≤ MAX_STATES
  pub lets : length b.lets ≤ MAX_LETS
  pub some : 0 < length b.assigns
  pub assigns : length b.assigns ≤ MAX_ASSIGNS
  pub weight : block_weight b ≤ MAX_WEIGHT
  pub meet : LetsMeet (is_readable slots b.lets) b.lets b.assigns
  pub states_differ : AreDistinct (state_names b)
  pub lets_differ : AreDistinct (targets_of b.lets)
  pub targets_differ : AreDistinct (targets_of b.assigns)
  pub bits : (name : List ℕ) → is_among (state_names b) name ≡ true → HasKind slots name Bit
  pub words : (name : List ℕ) → is_among (word_names b) name ≡ true → HasKind slots name Word
  pub fresh : (name : List ℕ) → is_among (word_names b) name ≡ true
      → is_among (block_reads b) name ≡ false

-- the statement is one of an operation that meets the rules
abbrev pub StatementMeets : Slots → Statement → Type 0
StatementMeets slots (Compute target second p args) = ComputeMeets slots target second p args
StatementMeets slots (Visit b) = BlockMeets slots b
