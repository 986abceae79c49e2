-- The scratch that an operation needs, and how many commands it may take.
use Rattle.std.specs.Prelude.{ℕ, ◌+◌, ◌*◌, max, not, ◌&&◌, List, [], ◌∷◌, ◌++◌, length, map}
use Rattle.std.specs.Prelude.{filter, count_by, sum, unwrap_or, Some, None}
use Rattle.op_text.specs.declared.tree.Kind.{Kind}
use Rattle.op_text.specs.declared.tree.Kind.TheVariants.{Word, Bit}
use Rattle.op_text.specs.declared.tree.Param.{Param}
use Rattle.op_text.specs.declared.word_ops.WordOp.{WordOp}
use Rattle.op_text.specs.Language.{Term, Nought, Unity, Named, Negation, Conjunction, Disjunction}
use Rattle.op_text.specs.Language.{Parity, Majority, Equation, Block, Statement, Compute, Visit}
use Rattle.op_text.specs.Language.{Operation, result_names}
use Rattle.op_text.specs.Rules.{is_among, kind_among, second_of}
use Rattle.op_text.specs.WordOps.{row_of, forms, given_first, same_kind}
use Rattle.op_text.specs.Costs.{op_ceiling}
use Rattle.op_text.specs.Meaning.{width}

-- the internal scratch of one statement of an operation
abbrev pub bits_inside : WordOp → ℕ
bits_inside p = (row_of p).bits

-- the words, of n rows each, that one statement of the operation needs beside its arguments
abbrev pub words_inside : WordOp → ℕ
words_inside p = (row_of p).words

-- a name with its kind
abbrev pub param : List ℕ → Kind → Param
param name k = record { name = name; kind = k }

-- the kinds of the names of arguments, where these names are known
abbrev pub kind_of : List Param → List ℕ → Kind
kind_of known name = unwrap_or (kind_among known name) Word

-- the kind of a word statement's first result, which its first argument settles
abbrev pub result_kind : List Param → WordOp → List (List ℕ) → Kind
result_kind known p [] = given_first (forms p) None
result_kind known p (name ∷ names) = given_first (forms p) (Some (kind_of known name))

-- the states of a block, which are rows of one bit each
abbrev pub state_names : Block → List (List ℕ)
state_names block = map (λ s. s.name) block.states

-- the assigned names of a block that are no states
abbrev pub word_names : Block → List (List ℕ)
word_names block = filter (λ n. not (is_among (state_names block) n))
    (map (λ (e : Equation). e.name) block.assigns)

-- the names that a statement defines, results among them
abbrev pub defines : List Param → Statement → List Param
defines known (Compute target second p args) =
    param target (result_kind known p args) ∷ second_of second p
defines known (Visit block) = map (λ n. param n Bit) (state_names block)
    ++ map (λ n. param n Word) (word_names block)

-- all names that a body defines
abbrev pub body_defines : List Param → List Statement → List Param
body_defines known [] = []
body_defines known (s ∷ body) = defines known s ++ body_defines (known ++ defines known s) body

-- what a word operation needs beside its arguments; a block needs nothing that is not named
abbrev pub need_inside : (WordOp → ℕ) → Statement → ℕ
need_inside f (Compute target second p args) = f p
need_inside f (Visit block) = 0

-- the largest of these, and 0 of none: statements use the same scratch one after the other
abbrev pub greatest : List ℕ → ℕ
greatest [] = 0
greatest (n ∷ ns) = max n (greatest ns)

-- the scratch rows: the names of a kind other than the results, and the largest need of a statement
abbrev pub scratch_names : Kind → Operation → ℕ
scratch_names k op =
    count_by (λ p. same_kind p.kind k && not (is_among (result_names op) p.name))
    (body_defines op.params op.body)

-- the rows of scratch that hold one bit each, at every width
abbrev pub scratch_bits : Operation → ℕ
scratch_bits op = scratch_names Bit op + greatest (map (need_inside bits_inside) op.body)

-- the words of scratch, which take n rows each at width n
abbrev pub scratch_words : Operation → ℕ
scratch_words op = scratch_names Word op + greatest (map (need_inside words_inside) op.body)

-- all rows of scratch at width n, as worked examples count them
abbrev pub need : Operation → ℕ → ℕ
need op n = scratch_bits op + n * scratch_words op

-- the weight of an expression's gates
abbrev pub term_weight : Term → ℕ
term_weight Nought = 0
term_weight Unity = 0
term_weight (Named name) = 0
term_weight (Negation a) = term_weight a
term_weight (Conjunction a b) = 1 + term_weight a + term_weight b
term_weight (Disjunction a b) = 1 + term_weight a + term_weight b
term_weight (Parity a b) = 3 + term_weight a + term_weight b
term_weight (Majority a b c) = 1 + term_weight a + term_weight b + term_weight c

-- the weight of all gates of a block's lets and assignments
abbrev pub block_weight : Block → ℕ
block_weight block =
    sum (map (λ (e : Equation). term_weight e.value) block.lets)
    + sum (map (λ (e : Equation). term_weight e.value) block.assigns)

-- the commands that a block takes at most: at each position four for each gate's weight and three
-- for each target, and one for each state's start
abbrev pub block_ceiling : Block → ℕ → ℕ
block_ceiling block n = n * (4 * block_weight block + 3 * length block.assigns)
    + length block.states

-- the width of an operation's arguments
abbrev pub names_width : List Param → ℕ → List (List ℕ) → ℕ
names_width known n [] = n
names_width known n (name ∷ names) = width n (kind_of known name)

-- the commands that one statement takes at most; a word operation by its own table, at the width of
-- its arguments
abbrev pub statement_ceiling : (WordOp → ℕ → ℕ) → List Param → ℕ → Statement → ℕ
statement_ceiling f known n (Compute target second p args) = f p (names_width known n args)
statement_ceiling f known n (Visit block) = block_ceiling block n

-- the commands that statements take at most, one after another
abbrev pub body_ceiling : (WordOp → ℕ → ℕ) → List Param → ℕ → List Statement → ℕ
body_ceiling f known n [] = 0
body_ceiling f known n (s ∷ body) = statement_ceiling f known n s
    + body_ceiling f (known ++ defines known s) n body

-- the commands that an op's microprogram may have at most at width n: the promise of the compiler,
-- and a condition of every program that implements it
abbrev pub ceiling : Operation → ℕ → ℕ
ceiling op n = body_ceiling op_ceiling op.params n op.body
