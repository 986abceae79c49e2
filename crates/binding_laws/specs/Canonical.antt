-- One binding for every shape and width: results, sources, scratch and spill group, one behind the
-- other, n rows for each value
use Rattle.std.specs.Prelude.{ℕ, ◌+◌, ◌*◌, List, [], ◌∷◌, length}
use Rattle.op_text.specs.declared.tree.Kind.{Kind}
use Rattle.uprog_code.specs.Shape.{Shape, results, need}
use Rattle.uprog_code.specs.Bound.{Bound}

-- the first rows of values, n rows each
abbrev pub bases : ℕ → ℕ → List Kind → List ℕ
bases n start [] = []
bases n start (k ∷ ks) = start ∷ bases n (start + n) ks

-- how many rows the results take
abbrev pub result_rows : Shape → ℕ → ℕ
result_rows shape n = n * length (results shape)

-- and with the sources
abbrev pub value_rows : Shape → ℕ → ℕ
value_rows shape n = result_rows shape n + n * length shape.sources

abbrev pub canonical : Shape → ℕ → Bound
canonical shape n = record {
  results = bases n 0 (results shape);
  sources = bases n (result_rows shape n) shape.sources;
  scratch = value_rows shape n;
}

-- the rows of a bank that has these and the spill group alone
abbrev pub canonical_rows : Shape → ℕ → ℕ
canonical_rows shape n = value_rows shape n + need shape n + 32
