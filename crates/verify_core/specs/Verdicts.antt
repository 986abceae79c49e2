-- Whether an entry does an op at one width
use Rattle.std.specs.Prelude.{◌≡◌, ◌≢◌, ◌⊎◌, ℕ, ◌+◌, ◌^◌, ◌<◌, ◌≤◌, nat_lt, if◌then◌else◌}
use Rattle.std.specs.Prelude.{List, [], ◌∷◌, ◌++◌, Ok, Err, filter, map, length}
use Rattle.std.specs.List.{range_with_len}
use Rattle.dram_model.specs.declared.address.Cell.{Cell}
use Rattle.dram_model.specs.declared.address.Cell.TheVariants.{T, Dcc, D}
use Rattle.dram_model.specs.Column.{Column, run}
use Rattle.uprog_code.specs.Shape.{Shape, Microprogram, results, need}
use Rattle.uprog_code.specs.Machine.{HasEnded, Issue, trace, issues_of}
use Rattle.uprog_code.specs.Count.{walked}
use Rattle.uprog_code.specs.Bound.{Bound, bound}
use Rattle.uprog_code.specs.Fits.{ArePairwiseApart, Fits, ranges}
use Rattle.uprog_code.specs.Implements.{numbers, Gives, Keeps}
use Rattle.uprog_code.specs.Texts.{TextOp}
use Rattle.bdd.specs.declared.Limits.{Limits}
use Rattle.bdd.specs.declared.TheConstants.{DEPTH}
use Rattle.bdd.specs.Edges.{first_node}
use Rattle.bdd.specs.Graphs.{Graph}
use Rattle.binding_laws.specs.Canonical.{canonical, canonical_rows, result_rows, value_rows}
use Rattle.verify_core.specs.declared.case.Case.{Case}
use Rattle.verify_core.specs.declared.verdict.Limit.{Limit}
use Rattle.verify_core.specs.declared.verdict.Limit.TheVariants.{Nodes, Depth, Steps}
use Rattle.verify_core.specs.declared.verdict.Verdict.{Verdict}
use Rattle.verify_core.specs.declared.verdict.Verdict.TheVariants.{Right, Wrong, Stuck, OtherKinds}
use Rattle.verify_core.specs.declared.verdict.Verdict.TheVariants.{Unknown}

-- the same kinds of sources and of results; scratch may differ
pub record SameKinds (a b : Shape) : Type 0 where
  pub sources : a.sources ≡ b.sources
  pub results : results a ≡ results b

-- In every column and under every binding that fits, the entry leaves the op's meaning in its
-- results, and every data row outside results, scratch and spill group as it was
pub record DoesAt (n : ℕ) (e : Microprogram) (o : TextOp) : Type 0 where
  pub ends : HasEnded (trace e.shape e.code n)
  pub gives : Gives e.shape n (issues_of (trace e.shape e.code n)) (o.meaning n)
  pub keeps : Keeps e.shape n (issues_of (trace e.shape e.code n))

-- the cells of the canonical bank but those of the sources and the C cells: T and DCC cells, the
-- rows of results, of scratch and of the spill group
abbrev pub work_cells : Shape → ℕ → List Cell
work_cells shape n =
    (T 0 ∷ T 1 ∷ T 2 ∷ T 3 ∷ Dcc 0 ∷ Dcc 1 ∷ []) ++ (map D (range_with_len 0 (result_rows shape n))
    ++ map D (range_with_len (value_rows shape n) (need shape n + 32)))

-- under a binding in a bank of so many rows some column has the case's numbers as sources, and the
-- commands give the case's results from it
pub record GivesCase (rows : ℕ) (shape : Shape) (n : ℕ) (b : Bound) (issues : List Issue)
    (case : Case) : Type 0 where
  pub column : Column
  pub sources : numbers n shape.sources b.sources column ≡ case.sources.items
  pub got : numbers n (results shape) b.results (run (bound rows shape n b issues) column)
      ≡ case.got.items

-- The case fails: from some column, with these numbers as sources and 1 in exactly these of the
-- work cells, the commands give other numbers than the meaning, under the canonical binding; and so
-- they do from some column under each binding that fits and has its sources apart
pub record Fails (shape : Shape) (n : ℕ) (issues : List Issue) (meaning : List ℕ → List ℕ)
    (case : Case) : Type 0 where
  pub column : Column
  pub sources : numbers n shape.sources (canonical shape n).sources column ≡ case.sources.items
  pub got : numbers n (results shape) (canonical shape n).results
      (run (bound (canonical_rows shape n) shape n (canonical shape n) issues) column)
      ≡ case.got.items
  pub wanted : case.wanted.items ≡ meaning case.sources.items
  pub differ : case.got.items ≢ case.wanted.items
  pub ones : case.ones.items ≡ filter column (work_cells shape n)
  pub everywhere : (rows : ℕ) (b : Bound) → Fits rows shape n b
      → ArePairwiseApart (ranges n shape.sources b.sources) → GivesCase rows shape n b issues case

-- so many nodes, and questions that no kept answer settles, a comparison may take
abbrev pub most_nodes : ℕ
most_nodes = 4000000

abbrev pub most_questions : ℕ
most_questions = 2 ^ 25

-- how many variables a comparison of entries of two shapes has: one for each cell of the larger of
-- the two canonical banks
abbrev pub variables_of : Shape → Shape → ℕ → ℕ
variables_of a b n = 6 + (if nat_lt (canonical_rows a n) (canonical_rows b n)
    then canonical_rows b n else canonical_rows a n)

-- the diagram of a comparison before it begins
abbrev pub fresh : Shape → Shape → ℕ → Graph
fresh a b n =
    let limits : Limits = record {
      nodes = most_nodes;
      questions = most_questions;
      variables = variables_of a b n;
    } in
    record { limits = limits; questions = 0; nodes = first_node ∷ [] }

-- The limit may be told of a comparison of two shapes: it took so many nodes, or questions, or one
-- of the banks has more cells than a function may have variables
abbrev pub IsReached : ℕ → Shape → Shape → Limit → Type 0
IsReached n a b (Nodes count) = most_nodes ≤ count
IsReached n a b Depth = (8192 < 6 + canonical_rows a n) ⊎ (8192 < 6 + canonical_rows b n)
IsReached n a b (Steps count) = most_questions ≤ count

-- what an unknown verdict counts is what the diagram has
abbrev pub IsMeasured : Graph → Verdict → Type 0
IsMeasured graph (Right counts) = Unit {0}
IsMeasured graph (Wrong case) = Unit {0}
IsMeasured graph (Stuck walk) = Unit {0}
IsMeasured graph OtherKinds = Unit {0}
IsMeasured graph (Unknown (Nodes count)) = count ≡ length graph.nodes
IsMeasured graph (Unknown Depth) = Unit {0}
IsMeasured graph (Unknown (Steps count)) = count ≡ graph.questions

-- the diagram is at the limit that such a verdict tells
abbrev pub IsUnknown : Graph → Verdict → Type 0
IsUnknown graph (Right counts) = ⊥
IsUnknown graph (Wrong case) = ⊥
IsUnknown graph (Stuck walk) = ⊥
IsUnknown graph OtherKinds = ⊥
IsUnknown graph (Unknown (Nodes count)) =
    (graph.limits.nodes ≤ count) × (count ≡ length graph.nodes)
IsUnknown graph (Unknown Depth) = DEPTH < graph.limits.variables
IsUnknown graph (Unknown (Steps count)) =
    (graph.limits.questions ≤ count) × (count ≡ graph.questions)

-- The verdict is true of the entry and the op. An entry of other kinds, and one that is stuck, are
-- told so, and nothing else is
abbrev pub IsVerdict : ℕ → Microprogram → TextOp → Verdict → Type 0
IsVerdict n e o (Right counts) = SameKinds e.shape o.shape
    × (walked (trace e.shape e.code n) ≡ Ok counts) × DoesAt n e o
IsVerdict n e o (Wrong case) = SameKinds e.shape o.shape × HasEnded (trace e.shape e.code n)
    × Fails e.shape n (issues_of (trace e.shape e.code n)) (o.meaning n) case
IsVerdict n e o (Stuck walk) = SameKinds e.shape o.shape
    × (walked (trace e.shape e.code n) ≡ Err walk)
IsVerdict n e o OtherKinds = SameKinds e.shape o.shape → ⊥
IsVerdict n e o (Unknown limit) = SameKinds e.shape o.shape × HasEnded (trace e.shape e.code n)
    × IsReached n e.shape o.shape limit
