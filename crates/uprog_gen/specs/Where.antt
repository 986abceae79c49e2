-- Where the named rows of an operation lie in a bank.
use Rattle.std.specs.Prelude.{◌≡◌, ℕ, ◌+◌, ◌*◌, ◌<◌, Option, Some, None, slice_get, slice_index}
use Rattle.dram_model.specs.declared.address.Cell.TheVariants.{D}
use Rattle.dram_model.specs.Column.{Column}
use Rattle.op_text.specs.declared.tree.Kind.{Kind}
use Rattle.uprog_code.specs.Shape.{Shape, width, results}
use Rattle.uprog_code.specs.Bound.{Bound}
use Rattle.loop_ir.specs.declared.ir.Space.{Space}
use Rattle.loop_ir.specs.declared.ir.Space.TheVariants.{Result, Source, ScratchBit, ScratchWord}
use Rattle.loop_ir.specs.declared.ir.Space.TheVariants.{Cells}
use Rattle.loop_ir.specs.Spots.{Spot, Spots}

-- the data row of an operation's named row, where its values and its scratch begin there
abbrev pub row_in : Shape → ℕ → Bound → Space → ℕ → ℕ → ℕ
row_in head n b Result w i = slice_index b.results w + i
row_in head n b Source w i = slice_index b.sources w + i
row_in head n b ScratchBit w i = b.scratch + w
row_in head n b ScratchWord w i = b.scratch + head.bits + i
row_in head n b Cells w i = b.scratch + w

-- the data row of a named row
abbrev pub spot_row : Shape → ℕ → Bound → Spot → ℕ
spot_row head n b p = row_in head n b p.space p.which p.index

-- a position of a value of this kind, where there is one
abbrev pub IsBelow : Option Kind → ℕ → ℕ → Type 0
IsBelow None n i = ⊥
IsBelow (Some k) n i = i < width k n

-- the row is one that the operation has in this space
abbrev pub IsIn : Shape → ℕ → Space → ℕ → ℕ → Type 0
IsIn head n Result w i = IsBelow (slice_get (results head) w) n i
IsIn head n Source w i = IsBelow (slice_get head.sources w) n i
IsIn head n ScratchBit w i = (w < head.bits) × (i ≡ 0)
IsIn head n ScratchWord w i = (w ≡ 0) × (i < n * head.words)
IsIn head n Cells w i = ⊥

-- the named row is one that the operation has: what stands in cells has no row
abbrev pub IsSpot : Shape → ℕ → Spot → Type 0
IsSpot head n p = IsIn head n p.space p.which p.index

-- the bits of all named rows, as they stand in a column
abbrev pub spots_in : Shape → ℕ → Bound → Column → Spots
spots_in head n b s = λ p. s (D (spot_row head n b p))

-- the column's data rows hold the bits of the operation's named rows
abbrev pub Agree : Shape → ℕ → Bound → Spots → Column → Type 0
Agree head n b bits s = (p : Spot) → IsSpot head n p → s (D (spot_row head n b p)) ≡ bits p
