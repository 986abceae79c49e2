-- The nodes of a query, as the definitions of scans know them.
use Rattle.std.specs.Prelude.{◌≡◌, ℕ, ◌+◌, ◌<◌, ◌≤◌, List, [], map, codes, slice_index_or}
use Rattle.object_alloc.specs.Listed.{Named}
use Rattle.bbop_isa.specs.Forms.{Instruction}
use Rattle.machine_model.specs.Refusals.{rows_of}
use Rattle.scan_model.specs.Queries as model
use Rattle.scan_model.specs.Instructions.{compare_with, join_one, join_two}
use Rattle.scan_query.specs.declared.query.Node.{Node}
use Rattle.scan_query.specs.declared.query.Node.TheVariants as node
use Rattle.scan_query.specs.declared.query.Query.{Query}

-- a node of the code as the definitions have it
abbrev pub node_of : Node → model.Node
node_of (node.Cmp op place value) = model.Test op place value
node_of (node.Not a) = model.Not a
node_of (node.And a b) = model.And a b
node_of (node.Or a b) = model.Or a b

-- the nodes of a parsed query, in order
abbrev pub nodes_in : Query → List model.Node
nodes_in q = map node_of q.nodes.items

-- the nodes of this tree, which has at most 64, and whose parts may be an object's
pub record IsNodesOf (t : model.Query) (nodes : List model.Node) : Type 0 where
  pub nodes_are : nodes ≡ model.nodes_of t
  pub small : model.size t ≤ 64
  pub parts : model.HasParts t

-- names by their numbers
abbrev pub names_in : List (List ℕ) → ℕ → List ℕ
names_in names k = slice_index_or names k []

-- the sources of a join are among the first nodes
abbrev pub sources_fit : ℕ → model.Node → Type 0
sources_fit limit (model.Test op place v) = Unit {0}
sources_fit limit (model.Not a) = a < limit
sources_fit limit (model.And a b) = (a < limit) × (b < limit)
sources_fit limit (model.Or a b) = (a < limit) × (b < limit)

-- how many bits a comparison looks at, and the width of a join's bits
abbrev pub width_in : List Named → model.Node → ℕ
width_in table (model.Test op place v) = (rows_of table place).width
width_in table (model.Not a) = 1
width_in table (model.And a b) = 1
width_in table (model.Or a b) = 1

-- what a part of a scan takes, for its proof: the instructions of a node of this width
abbrev pub instructions_for : (ℕ → List ℕ) → (count width k : ℕ) → model.Node → List Instruction
instructions_for names count width k (model.Test op place v) =
    compare_with (names 0) (names (k + 1)) place op v count width
instructions_for names count width k (model.Not a) =
    join_one (codes "s_not") (names (k + 1)) (names (a + 1)) count
instructions_for names count width k (model.And a b) =
    join_two (codes "s_and") (names (k + 1)) (names (a + 1)) (names (b + 1)) count
instructions_for names count width k (model.Or a b) =
    join_two (codes "s_or") (names (k + 1)) (names (a + 1)) (names (b + 1)) count
