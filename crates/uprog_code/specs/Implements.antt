-- When code does an operation.
use Rattle.std.specs.Prelude.{◌≡◌, ℕ, ◌<◌, ◌≤◌, List, [], ◌∷◌, length}
use Rattle.dram_model.specs.declared.address.Cell.TheVariants.{D}
use Rattle.dram_model.specs.Column.{Column, run}
use Rattle.dram_model.specs.Elements.{number}
use Rattle.bit_rows.specs.declared.TheConstants.{WIDTH_MAX}
use Rattle.op_text.specs.declared.tree.Kind.{Kind}
use Rattle.uprog_code.specs.declared.code.Uop.{Uop}
use Rattle.uprog_code.specs.Shape.{Shape, width, results}
use Rattle.uprog_code.specs.Machine.{Issue, trace, issues_of, HasEnded}
use Rattle.uprog_code.specs.Bound.{Bound, bound}
use Rattle.uprog_code.specs.Fits.{Fits, IsTouched}

-- the numbers of values of these kinds in a column
abbrev pub numbers : ℕ → List Kind → List ℕ → Column → List ℕ
numbers n [] bases s = []
numbers n (k ∷ ks) [] s = []
numbers n (k ∷ ks) (b ∷ bs) s = number b (width k n) s ∷ numbers n ks bs s

-- in every column and under every binding that fits, these commands leave in the results' rows the
-- meaning of what the sources' rows held
pub record Gives (shape : Shape) (n : ℕ) (issues : List Issue) (meaning : List ℕ
    → List ℕ) : Type 0 where
  pub value : (rows : ℕ) (b : Bound) (s : Column) → Fits rows shape n b
      → numbers n (results shape) b.results (run (bound rows shape n b issues) s)
      ≡ meaning (numbers n shape.sources b.sources s)

-- and every data row outside results, scratch and spill group as it was
pub record Keeps (shape : Shape) (n : ℕ) (issues : List Issue) : Type 0 where
  pub row : (rows : ℕ) (b : Bound) (s : Column) → Fits rows shape n b → (r : ℕ)
      → (IsTouched rows shape n b r → ⊥) → run (bound rows shape n b issues) s (D r) ≡ s (D r)

-- at every width the code ends within the ceiling, and does the operation
pub record Implements (shape : Shape) (code : List Uop) (ceiling : ℕ → ℕ) (meaning : ℕ → List ℕ
    → List ℕ) : Type 0 where
  pub ends : (n : ℕ) → 0 < n → n ≤ WIDTH_MAX → HasEnded (trace shape code n)
  pub cheap : (n : ℕ) → 0 < n → n ≤ WIDTH_MAX → length (issues_of (trace shape code n)) ≤ ceiling n
  pub gives : (n : ℕ) → 0 < n → n ≤ WIDTH_MAX
      → Gives shape n (issues_of (trace shape code n)) (meaning n)
  pub keeps : (n : ℕ) → 0 < n → n ≤ WIDTH_MAX → Keeps shape n (issues_of (trace shape code n))
