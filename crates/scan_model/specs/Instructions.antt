-- The instructions of a query, node by node.
use Rattle.std.specs.Prelude.{ℕ, ◌+◌, List, [], ◌∷◌, ◌++◌, codes}
use Rattle.object_alloc.specs.Listed.{Named}
use Rattle.bbop_isa.specs.declared.instr.Place.{Place}
use Rattle.bbop_isa.specs.Forms.{Instruction, Init, Bbop, Fill, Free, whole}
use Rattle.machine_model.specs.Refusals.{rows_of}
use Rattle.scan_model.specs.declared.CmpOp.{CmpOp}
use Rattle.scan_model.specs.declared.CmpOp.TheVariants as cmp
use Rattle.scan_model.specs.Queries.{Node, Test, Not, And, Or}
use Rattle.scan_model.specs.Names.{free_name}

-- less is greater with the sources turned
abbrev pub op_for : CmpOp → List ℕ
op_for cmp.Eq = codes "s_eq"
op_for cmp.Gt = codes "s_gt"
op_for cmp.Ge = codes "s_ge"
op_for cmp.Lt = codes "s_gt"
op_for cmp.Le = codes "s_ge"

-- the sources of a comparison: the operand and the constant, turned for less
abbrev pub sources_for : CmpOp → Place → Place → List Place
sources_for cmp.Eq place c = place ∷ c ∷ []
sources_for cmp.Gt place c = place ∷ c ∷ []
sources_for cmp.Ge place c = place ∷ c ∷ []
sources_for cmp.Lt place c = c ∷ place ∷ []
sources_for cmp.Le place c = c ∷ place ∷ []

-- an object c as wide as the operand is filled with the number, and compared into the object r
abbrev pub compare_with : (c r : List ℕ) → Place → CmpOp → (v count n : ℕ) → List Instruction
compare_with c r place op v count n =
    Init c count n ∷ Fill (whole c) v ∷ Init r count 1
    ∷ Bbop (op_for op) (whole r) (sources_for op place (whole c)) count n ∷ Free c ∷ []

-- a node of one source: a new object of one bit takes the result, and the source's is freed
abbrev pub join_one : List ℕ → (r a : List ℕ) → ℕ → List Instruction
join_one op r a count = Init r count 1 ∷ Bbop op (whole r) (whole a ∷ []) count 1 ∷ Free a ∷ []

-- a node of two sources, whose objects are freed
abbrev pub join_two : List ℕ → (r a b : List ℕ) → ℕ → List Instruction
join_two op r a b count = Init r count 1 ∷ Bbop op (whole r) (whole a ∷ whole b ∷ []) count 1
    ∷ Free a ∷ Free b ∷ []

-- the name number 0 is that of the object to compare with, and the name k + 1 is that of the
-- result of node k
abbrev pub node_instructions : List Named → (ℕ → List ℕ) → ℕ → ℕ → Node → List Instruction
node_instructions table names count k (Test op place v) =
    compare_with (names 0) (names (k + 1)) place op v count (rows_of table place).width
node_instructions table names count k (Not a) =
    join_one (codes "s_not") (names (k + 1)) (names (a + 1)) count
node_instructions table names count k (And a b) =
    join_two (codes "s_and") (names (k + 1)) (names (a + 1)) (names (b + 1)) count
node_instructions table names count k (Or a b) =
    join_two (codes "s_or") (names (k + 1)) (names (a + 1)) (names (b + 1)) count

-- the instructions of nodes, the first of which has this number
abbrev pub script_from : List Named → (ℕ → List ℕ) → ℕ → ℕ → List Node → List Instruction
script_from table names count k [] = []
script_from table names count k (node ∷ nodes) = node_instructions table names count k node
    ++ script_from table names count (k + 1) nodes

-- the count of the first comparison's object
abbrev pub count_of : List Named → List Node → ℕ
count_of table [] = 0
count_of table (Test op place v ∷ nodes) = (rows_of table place).count
count_of table (Not a ∷ nodes) = count_of table nodes
count_of table (And a b ∷ nodes) = count_of table nodes
count_of table (Or a b ∷ nodes) = count_of table nodes

-- the instructions of a query on a table
abbrev pub scan_script : List Named → List Node → List Instruction
scan_script table nodes = script_from table (free_name table) (count_of table nodes) 0 nodes
