-- Which bindings fit in a bank, and which rows an operation may change.
use Rattle.std.specs.Prelude.{◌⊎◌, ℕ, ◌+◌, ◌-◌, ◌<◌, ◌≤◌, List, [], ◌∷◌}
use Rattle.std.specs.List.{AllByRecursion}
use Rattle.op_text.specs.declared.tree.Kind.{Kind}
use Rattle.uprog_code.specs.Shape.{Shape, width, need, results}
use Rattle.uprog_code.specs.Bound.{Bound}

-- rows that follow one another
pub record Range : Type 0 where
  pub base : ℕ
  pub size : ℕ

-- the row is one of them
abbrev pub IsAmong : Range → ℕ → Type 0
IsAmong r row = (r.base ≤ row) × (row < r.base + r.size)

-- no row is in both
abbrev pub AreApart : Range → Range → Type 0
AreApart q r = (row : ℕ) → IsAmong q row → IsAmong r row → ⊥

-- the rows of values of these kinds
abbrev pub ranges : ℕ → List Kind → List ℕ → List Range
ranges n [] bases = []
ranges n (k ∷ ks) [] = []
ranges n (k ∷ ks) (b ∷ bs) = record { base = b; size = width k n } ∷ ranges n ks bs

-- as many values as kinds, each below the spill group
abbrev pub AreBelow : ℕ → ℕ → List Kind → List ℕ → Type 0
AreBelow rows n [] [] = Unit {0}
AreBelow rows n [] (b ∷ bs) = ⊥
AreBelow rows n (k ∷ ks) [] = ⊥
AreBelow rows n (k ∷ ks) (b ∷ bs) = (b + width k n ≤ rows - 32) × AreBelow rows n ks bs

-- no two of them have a row in common
abbrev pub ArePairwiseApart : List Range → Type 0
ArePairwiseApart [] = Unit {0}
ArePairwiseApart (r ∷ rs) = AllByRecursion (AreApart r) rs × ArePairwiseApart rs

-- the rows of the results, and those of the scratch
abbrev pub result_ranges : Shape → ℕ → Bound → List Range
result_ranges shape n b = ranges n (results shape) b.results

-- the rows of the scratch, from its base on
abbrev pub scratch_range : Shape → ℕ → Bound → Range
scratch_range shape n b = record { base = b.scratch; size = need shape n }

-- the rows that it may write, those of the spill group aside
abbrev pub written : Shape → ℕ → Bound → List Range
written shape n b = scratch_range shape n b ∷ result_ranges shape n b

-- The binding fits in a bank of so many data rows: all values, and scratch where some is needed,
-- lie below the spill group, and what it may write is apart from all else
pub record Fits (rows : ℕ) (shape : Shape) (n : ℕ) (b : Bound) : Type 0 where
  pub results : AreBelow rows n (results shape) b.results
  pub sources : AreBelow rows n shape.sources b.sources
  pub scratch : 0 < need shape n → b.scratch + need shape n ≤ rows - 32
  pub apart : ArePairwiseApart (written shape n b)
  pub read : AllByRecursion (λ s. AllByRecursion (AreApart s) (written shape n b))
      (ranges n shape.sources b.sources)

-- the row is among those of one of these values
abbrev pub IsInSome : List Range → ℕ → Type 0
IsInSome [] row = ⊥
IsInSome (r ∷ rs) row = IsAmong r row ⊎ IsInSome rs row

-- the row is one of the results, the scratch or the spill group
abbrev pub IsTouched : ℕ → Shape → ℕ → Bound → ℕ → Type 0
IsTouched rows shape n b row =
    IsInSome (result_ranges shape n b) row ⊎ (IsAmong (scratch_range shape n b) row
    ⊎ IsAmong (record { base = rows - 32; size = 32 }) row)
