-- The rows of a body's outputs.
use Rattle.std.specs.Prelude.{◌≡◌, ◌≢◌, ℕ, ◌<◌, List, length, Some, None}
use Rattle.mig_graph.specs.declared.Lit.{Lit}
use Rattle.mig_graph.specs.Outputs.{lit_at}
use Rattle.row_alloc.specs.declared.body.OutRow.{OutRow}
use Rattle.row_alloc.specs.Rows.{out_at}
use Rattle.loop_ir.specs.declared.ir.Place.{Place}
use Rattle.loop_ir.specs.Plain.{Block}
use Rattle.loop_ir.specs.Spots.{nth_place}

-- the rows of the first m outputs: each has its literal, and names the first input that is read at
-- the place where the output is written, if there is one
pub record AreRows (reads writes : List Place) (inputs : ℕ) (outs : List Lit) (m : ℕ)
    (rows : List OutRow) : Type 0 where
  pub size : length rows ≡ m
  pub lits : (j : ℕ) → j < length rows → (out_at rows j).lit ≡ lit_at outs j
  pub found : (j k : ℕ) → j < length rows → (out_at rows j).same ≡ Some k → (k < inputs)
      × (nth_place reads k ≡ nth_place writes j)
  pub first : (i j k : ℕ) → j < length rows → (out_at rows j).same ≡ Some k → i < k
      → nth_place reads i ≢ nth_place writes j
  pub none : (j : ℕ) → j < length rows → (out_at rows j).same ≡ None → (k : ℕ) → k < inputs
      → nth_place reads k ≢ nth_place writes j

-- they are those of a body
abbrev pub IsOuts : Block → ℕ → List OutRow → Type 0
IsOuts b m rows = AreRows b.reads b.writes b.graph.inputs b.outs m rows
