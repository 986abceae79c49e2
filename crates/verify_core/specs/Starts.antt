-- Columns whose cells are variables, or the values of these
use Rattle.std.specs.Prelude.{◌≡◌, ℕ, ◌+◌, ◌-◌, ◌*◌, ◌/◌, ◌%◌, ◌<◌, nat_lt, Bool}
use Rattle.std.specs.Prelude.{if◌then◌else◌, List, length}
use Rattle.dram_model.specs.declared.address.Cell.TheVariants.{T, Dcc, D}
use Rattle.bdd.specs.declared.Node.{Node}
use Rattle.bdd.specs.Graphs.{value}
use Rattle.bdd.specs.Paths.{assigned}
use Rattle.symbolic_column.specs.Symbols.{Cells, edge_at}
use Rattle.verify_core.specs.declared.start.Begin.{Begin}
use Rattle.verify_core.specs.declared.start.Begin.TheVariants.{Variables, Values}

-- the place of data row k in the order of variables: behind the r rows of results the bits of the s
-- sources alternate, the lowest position first; all others are as they are
abbrev pub row_variable : (n s r : ℕ) → ℕ → ℕ
row_variable n s r k = if nat_lt k r then k
    else if nat_lt k (r + n * s) then r + ((k - r) % n * s + (k - r) / n) else k

-- assignments for which a column stands: all, or those with these values
abbrev pub IsMeant : Begin → (ℕ → Bool) → Type 0
IsMeant Variables bits = Unit {0}
IsMeant (Values values) bits = (k : ℕ) → bits k ≡ assigned values.now k

-- each cell has the value of its variable, under each assignment that is meant
pub record IsStart (nodes : List Node) (begin : Begin) (n s r : ℕ) (c : Cells) : Type 0 where
  pub tees : (bits : ℕ → Bool) → IsMeant begin bits → (k : ℕ) → k < 4
      → value nodes bits (edge_at c (T k)) ≡ bits k
  pub duals : (bits : ℕ → Bool) → IsMeant begin bits → (k : ℕ) → k < 2
      → value nodes bits (edge_at c (Dcc k)) ≡ bits (4 + k)
  pub rows : (bits : ℕ → Bool) → IsMeant begin bits → (k : ℕ) → k < length c.rows
      → value nodes bits (edge_at c (D k)) ≡ bits (6 + row_variable n s r k)
