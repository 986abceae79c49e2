-- A query's instructions move no rows, and each is a piece of its own.
use Rattle.scan_model.proofs.Common.{◌≡◌, ℕ, ◌+◌, cond, List, [], ◌∷◌, ◌++◌, map, Option, Some}
use Rattle.scan_model.proofs.Common.{None, refl, sym, ◌∙◌, ap, arith, is_none, AllByRecursion}
use Rattle.scan_model.proofs.Common.{map-append, Geometry, Named, Instruction, Why, Routines}
use Rattle.scan_model.proofs.Common.{refusal, table_after}
use Rattle.machine_model.specs.Script.{sum_done, rows_loaded, rows_printed}
use Rattle.machine_model.specs.Pieces.{pieces, piece_of}
use Rattle.scan_model.specs.Queries.{Node, Test, Not, And, Or}
use Rattle.scan_model.specs.Instructions.{node_instructions, script_from, count_of}
use Rattle.scan_model.specs.Names.{free_name}
use Rattle.scan_model.specs.Laws.{NothingIsMoved, EachIsAlone}

-- what holds of both lists holds of both together
pub all_append : {X : Type 0} (P : X → Type 0) (xs ys : List X) → AllByRecursion P xs
    → AllByRecursion P ys → AllByRecursion P (xs ++ ys)
all_append P [] ys a b = b
all_append P (x ∷ xs) ys a b = (a.0, all_append P xs ys a.1 b)

-- instructions none of which moves a row
abbrev Moves : (Geometry → List Named → Instruction → ℕ) → Instruction → Type 0
Moves rows instr = (g : Geometry) (table : List Named) → rows g table instr ≡ 0

both_none : (r : Option Why) (m n : ℕ) → m ≡ 0 → n ≡ 0 → cond (is_none r) m 0 + n ≡ 0
both_none None m n e f = rw (e, f) refl
both_none (Some w) m n e f = omega (arith, f)

none_moved : (rows : Geometry → List Named → Instruction
    → ℕ) (g : Geometry) (operations : Routines) (table : List Named) (script : List Instruction)
    → AllByRecursion (Moves rows) script → sum_done rows g operations table script ≡ 0
none_moved rows g operations table [] a = refl
none_moved rows g operations table (instr ∷ script) a =
    both_none (refusal g operations table instr) (rows g table instr)
    (sum_done rows g operations (table_after g operations table instr) script) (a.0 g table)
    (none_moved rows g operations (table_after g operations table instr) script a.1)

node_loads : (table : List Named) (names : ℕ → List ℕ) (count k : ℕ) (node : Node)
    → AllByRecursion (Moves rows_loaded) (node_instructions table names count k node)
node_loads table names count k (Test op name v) =
    (λ g t. refl, (λ g t. refl, (λ g t. refl, (λ g t. refl, (λ g t. refl, tt)))))
node_loads table names count k (Not a) = (λ g t. refl, (λ g t. refl, (λ g t. refl, tt)))
node_loads table names count k (And a b) = (
  λ g t. refl,
  (λ g t. refl, (λ g t. refl, (λ g t. refl, tt))),
)
node_loads table names count k (Or a b) = (
  λ g t. refl,
  (λ g t. refl, (λ g t. refl, (λ g t. refl, tt))),
)

node_prints : (table : List Named) (names : ℕ → List ℕ) (count k : ℕ) (node : Node)
    → AllByRecursion (Moves rows_printed) (node_instructions table names count k node)
node_prints table names count k (Test op name v) =
    (λ g t. refl, (λ g t. refl, (λ g t. refl, (λ g t. refl, (λ g t. refl, tt)))))
node_prints table names count k (Not a) = (λ g t. refl, (λ g t. refl, (λ g t. refl, tt)))
node_prints table names count k (And a b) = (
  λ g t. refl,
  (λ g t. refl, (λ g t. refl, (λ g t. refl, tt))),
)
node_prints table names count k (Or a b) = (
  λ g t. refl,
  (λ g t. refl, (λ g t. refl, (λ g t. refl, tt))),
)

loads : (table : List Named) (names : ℕ → List ℕ) (count k : ℕ) (nodes : List Node)
    → AllByRecursion (Moves rows_loaded) (script_from table names count k nodes)
loads table names count k [] = tt
loads table names count k (node ∷ nodes) = all_append (Moves rows_loaded)
    (node_instructions table names count k node) _ (node_loads table names count k node)
    (loads table names count (k + 1) nodes)

prints : (table : List Named) (names : ℕ → List ℕ) (count k : ℕ) (nodes : List Node)
    → AllByRecursion (Moves rows_printed) (script_from table names count k nodes)
prints table names count k [] = tt
prints table names count k (node ∷ nodes) = all_append (Moves rows_printed)
    (node_instructions table names count k node) _ (node_prints table names count k node)
    (prints table names count (k + 1) nodes)

-- a scan's instructions load no row and print none
pub nothing_is_moved : NothingIsMoved
nothing_is_moved = record {
  loads = λ g operations start table nodes. none_moved rows_loaded g operations table _
      (loads start (free_name start) (count_of start nodes) 0 nodes);
  prints = λ g operations start table nodes. none_moved rows_printed g operations table _
      (prints start (free_name start) (count_of start nodes) 0 nodes);
}

-- a node's last instruction is no bbop, and each bbop has another instruction after it
node_alone : (table : List Named) (names : ℕ → List ℕ) (count k : ℕ) (node : Node)
    (rest : List Instruction) → pieces (node_instructions table names count k node ++ rest)
    ≡ map piece_of (node_instructions table names count k node) ++ pieces rest
node_alone table names count k (Test op name v) rest = refl
node_alone table names count k (Not a) rest = refl
node_alone table names count k (And a b) rest = refl
node_alone table names count k (Or a b) rest = refl

alone : (table : List Named) (names : ℕ → List ℕ) (count k : ℕ) (nodes : List Node)
    → pieces (script_from table names count k nodes)
    ≡ map piece_of (script_from table names count k nodes)
alone table names count k [] = refl
alone table names count k (node ∷ nodes) =
    node_alone table names count k node (script_from table names count (k + 1) nodes)
    ∙ ap (λ rest. map piece_of (node_instructions table names count k node) ++ rest)
    (alone table names count (k + 1) nodes)
    ∙ sym (map-append piece_of (node_instructions table names count k node)
    (script_from table names count (k + 1) nodes))

-- each bbop of a scan is a wave of its own
pub each_is_alone : EachIsAlone
each_is_alone table nodes = alone table (free_name table) (count_of table nodes) 0 nodes
