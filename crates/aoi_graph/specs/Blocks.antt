-- Blocks of lets and assignments, and the values of the graphs that are made for them
use Rattle.std.specs.Prelude.{◌≡◌, ℕ, ◌+◌, ◌<◌, Bool, true, false, List, [], ◌∷◌, length, map, sum}
use Rattle.std.specs.Prelude.{sum_by, slice_get, slice_index, Some, is_some, bytes_eq, ◌||◌}
use Rattle.std.specs.List.{AllByRecursion}
use Rattle.std.specs.declared.hash.FoldHasher.{FoldHasher}
use Rattle.std.specs.declared.hash.BuildHasherDefault.{BuildHasherDefault}
use Rattle.indexmap.specs.IndexMap.{IndexMap, get}
use Rattle.std.specs.Option.{option_map_or}
use Rattle.op_text.specs.declared.tree.Assign.{Assign}
use Rattle.op_text.specs.Language.{Term, Nought, Unity, Named, Negation, Conjunction, Disjunction}
use Rattle.op_text.specs.Language.{Parity, Majority, Equation, term, equation}
use Rattle.op_text.specs.Meaning.{term_bit, with_lets}
use Rattle.op_text.specs.Scratch.{term_weight}
use Rattle.aoi_graph.specs.declared.AoiNode.{AoiNode}
use Rattle.aoi_graph.specs.declared.AoiNode.TheVariants.{Zero, Input, Not, And, Or, Maj}
use Rattle.aoi_graph.specs.Gates.{aoi_values, aoi_at}

-- names and their numbers
abbrev pub Numbers : Type 0
Numbers = IndexMap (List ℕ) ℕ (BuildHasherDefault FoldHasher)

-- how many parts an expression has
abbrev pub parts : Term → ℕ
parts Nought = 1
parts Unity = 1
parts (Named name) = 1
parts (Negation a) = parts a + 1
parts (Conjunction a b) = parts a + parts b + 1
parts (Disjunction a b) = parts a + parts b + 1
parts (Parity a b) = parts a + parts b + 1
parts (Majority a b c) = parts a + parts b + parts c + 1

-- how many parts all expressions have: each takes five gates at most, and so much room the graph
-- needs
abbrev pub all_parts : List Assign → ℕ
all_parts xs = sum_by (λ (a : Assign). parts (term a.value)) xs

-- the weight of the gates of all expressions
abbrev pub all_weights : List Assign → ℕ
all_weights xs = sum (map (λ (e : Equation). term_weight e.value) (map equation xs))

-- an input that the node reads has a number that the map holds
abbrev pub IsHeld : Numbers → AoiNode → Type 0
IsHeld inputs Zero = Unit {0}
IsHeld inputs (Input i) = (name : List ℕ) × (get bytes_eq inputs name ≡ Some i)
IsHeld inputs (Not a) = Unit {0}
IsHeld inputs (And a b) = Unit {0}
IsHeld inputs (Or a b) = Unit {0}
IsHeld inputs (Maj a b c) = Unit {0}

-- every input that the nodes read is one that has a number
abbrev pub AreHeld : Numbers → List AoiNode → Type 0
AreHeld inputs nodes = (k : ℕ) → k < length nodes → IsHeld inputs (aoi_at nodes k)

-- the value of a name of the inputs; any other has the value 0
abbrev pub input_value : Numbers → (ℕ → Bool) → List ℕ → Bool
input_value inputs bits name = option_map_or (λ i. bits i) (get bytes_eq inputs name) false

-- the names of the inputs have the inputs' values
abbrev pub NamesInputs : Numbers → (ℕ → Bool) → (List ℕ → Bool) → Type 0
NamesInputs inputs bits env = (name : List ℕ) (i : ℕ) → get bytes_eq inputs name ≡ Some i
    → env name ≡ bits i

-- and every other name has the value 0
abbrev pub IsStart : Numbers → (ℕ → Bool) → (List ℕ → Bool) → Type 0
IsStart inputs bits env = (name : List ℕ) → env name ≡ input_value inputs bits name

-- the names after the lets, each valued with those before it
abbrev pub after_lets : (List ℕ → Bool) → List Assign → List ℕ → Bool
after_lets env lets = with_lets env (map equation lets)

-- each name that an expression reads is known
abbrev pub ReadsKnown : (List ℕ → Bool) → Term → Type 0
ReadsKnown known Nought = Unit {0}
ReadsKnown known Unity = Unit {0}
ReadsKnown known (Named name) = known name ≡ true
ReadsKnown known (Negation a) = ReadsKnown known a
ReadsKnown known (Conjunction a b) = ReadsKnown known a × ReadsKnown known b
ReadsKnown known (Disjunction a b) = ReadsKnown known a × ReadsKnown known b
ReadsKnown known (Parity a b) = ReadsKnown known a × ReadsKnown known b
ReadsKnown known (Majority a b c) = ReadsKnown known a × ReadsKnown known b × ReadsKnown known c

-- each name that a block reads is known, or that of an earlier let
abbrev pub BlockReads : (List ℕ → Bool) → List Assign → List Assign → Type 0
BlockReads known [] assigns = AllByRecursion (λ (a : Assign). ReadsKnown known (term a.value))
    assigns
BlockReads known (l ∷ lets) assigns = ReadsKnown known (term l.value)
    × BlockReads (λ name. bytes_eq name l.name || known name) lets assigns

-- the name is one that the block reads from outside
abbrev pub is_input : Numbers → List ℕ → Bool
is_input inputs name = is_some (get bytes_eq inputs name)

-- output j has the value of the expression of assignment j
abbrev pub HaveValues : List AoiNode → List ℕ → (ℕ → Bool) → (List ℕ → Bool) → List Assign → Type 0
HaveValues nodes outs bits env assigns = (j : ℕ) (a : Assign) → slice_get assigns j ≡ Some a
    → aoi_values nodes bits (slice_index outs j) ≡ term_bit env (term a.value)
