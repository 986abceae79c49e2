-- A microprogram that ran on variables or values, and where two such runs differ
use Rattle.std.specs.Prelude.{◌≡◌, ◌≢◌, ℕ, ◌+◌, ◌*◌, ◌^◌, ◌<◌, Bool, true, false, List, length}
use Rattle.std.specs.Prelude.{slice_get, filter}
use Rattle.bit_rows.specs.Bits.{flip_if}
use Rattle.dram_model.specs.declared.address.Cell.TheVariants.{D}
use Rattle.dram_model.specs.Column.{run}
use Rattle.uprog_code.specs.Shape.{Shape, results}
use Rattle.uprog_code.specs.Machine.{Issue, in_kind}
use Rattle.uprog_code.specs.Bound.{bound}
use Rattle.bdd.specs.declared.Edge.{Edge}
use Rattle.bdd.specs.declared.Node.{Node}
use Rattle.bdd.specs.Edges.{constant}
use Rattle.bdd.specs.Graphs.{IsNamed, value}
use Rattle.symbolic_column.specs.Symbols.{AreCells, Cells, column_of}
use Rattle.uprog_code.specs.Implements.{numbers}
use Rattle.binding_laws.specs.Canonical.{bases, canonical, canonical_rows, result_rows}
use Rattle.verify_core.specs.declared.case.Case.{Case}
use Rattle.verify_core.specs.declared.start.Begin.{Begin}
use Rattle.verify_core.specs.Starts.{IsMeant, IsStart}
use Rattle.verify_core.specs.Verdicts.{work_cells}

-- the commands, bound to the canonical bank, lead from a column that begins so to this column,
-- under each assignment
pub record IsRun (shape : Shape) (n : ℕ) (issues : List Issue) (begin : Begin) (nodes : List Node)
    (end : Cells) : Type 0 where
  pub first : List Node
  pub start : Cells
  pub starts : IsStart first begin n (length shape.sources) (result_rows shape n) start
  pub start_rows : length start.rows ≡ canonical_rows shape n
  pub does : (bits : ℕ → Bool) → column_of nodes bits end
      ≡ run (bound (canonical_rows shape n) shape n (canonical shape n) issues)
      (column_of first bits start)
  pub cells : AreCells nodes end
  pub rows : length end.rows ≡ canonical_rows shape n
  pub short : length end.rows < 2 ^ 16

-- the edge is true exactly where the row differs in the two columns, and is not constantly false
pub record IsDifference (old new : List Node) (own made : Cells) (row : ℕ) (e : Edge) : Type 0 where
  pub named : IsNamed new e
  pub some : e ≢ constant false
  pub value : (bits : ℕ → Bool) → value new bits e ≡ flip_if (column_of old bits own (D row))
      (column_of old bits made (D row))

-- the results' rows differ in the two columns at a position of a result
pub record ResultsDiffer (shape : Shape) (n : ℕ) (old new : List Node) (own made : Cells) (e : Edge)
    : Type 0 where
  pub which : ℕ
  pub position : ℕ
  pub inside : in_kind (slice_get (results shape) which) n position ≡ true
  pub difference : IsDifference old new own made (which * n + position) e

-- the results' rows are alike in the two columns under each assignment
abbrev pub ResultsAgree : Shape → ℕ → List Node → Cells → Cells → Type 0
ResultsAgree shape n nodes own made = (bits : ℕ → Bool) (which position : ℕ)
    → in_kind (slice_get (results shape) which) n position ≡ true
    → column_of nodes bits own (D (which * n + position))
    ≡ column_of nodes bits made (D (which * n + position))

-- the case's numbers stand in a column that begins so and in both columns, under an assignment that
-- is meant
pub record IsCase (shape : Shape) (n : ℕ) (begin : Begin) (nodes : List Node) (own made : Cells)
    (bits : ℕ → Bool) (case : Case) : Type 0 where
  pub start : Cells
  pub starts : IsStart nodes begin n (length shape.sources) (result_rows shape n) start
  pub meant : IsMeant begin bits
  pub rows : length start.rows ≡ canonical_rows shape n
  pub sources : case.sources.items ≡ numbers n shape.sources
      (bases n (result_rows shape n) shape.sources) (column_of nodes bits start)
  pub got : case.got.items ≡ numbers n (results shape) (bases n 0 (results shape))
      (column_of nodes bits own)
  pub wanted : case.wanted.items ≡ numbers n (results shape) (bases n 0 (results shape))
      (column_of nodes bits made)
  pub ones : case.ones.items ≡ filter (column_of nodes bits start) (work_cells shape n)

-- such a case, under an assignment under which the edge is true
pub record IsCaseOf (shape : Shape) (n : ℕ) (old new : List Node) (own made : Cells) (e : Edge)
    (case : Case) : Type 0 where
  pub begin : Begin
  pub bits : ℕ → Bool
  pub is_true : value old bits e ≡ true
  pub numbers : IsCase shape n begin new own made bits case
