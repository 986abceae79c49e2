-- Bodies that find inputs in cells, and leave values in cells
use Rattle.std.specs.Prelude.{◌≡◌, ◌≢◌, ℕ, ◌+◌, ◌<◌, ◌==◌, ◌&&◌, nat_lt, Bool, true, false, not}
use Rattle.std.specs.Prelude.{List, [], ◌∷◌, length, map, Some, None, if◌then◌else◌}
use Rattle.std.specs.List.{list_any, list_all, AllByRecursion}
use Rattle.dram_model.specs.declared.address.Cell.TheVariants.{T, Dcc, C, D}
use Rattle.dram_model.specs.declared.address.Line.{Line}
use Rattle.dram_model.specs.Column.{Column}
use Rattle.mig_graph.specs.Graph.{Graph, value}
use Rattle.row_alloc.specs.declared.body.BodyCmd.{BodyCmd}
use Rattle.row_alloc.specs.declared.body.BodyRef.{BodyRef}
use Rattle.row_alloc.specs.declared.body.BodyRef.TheVariants.{B, C as RowC, In, Out, Spill}
use Rattle.row_alloc.specs.declared.body.BodyCmd.TheVariants.{Aap, Ap}
use Rattle.row_alloc.specs.declared.body.OutRow.{OutRow}
use Rattle.row_alloc.specs.declared.body.Held.{Held}
use Rattle.row_alloc.specs.Rows.{Rows, run_body, bound, out_at, AreApart}
use Rattle.row_alloc.specs.Legal.{are_legal}
use Rattle.row_alloc.specs.Layouts.{layout, is_layout, StandsIn}
use Rattle.row_alloc.specs.Numbering.{own_rows}
use Rattle.row_alloc.specs.Symbolic.{Symbols, sym_read, sym_settle_lines, sym_run}

-- each of the literals has a layout of the list
abbrev pub have_layouts : List Held → Bool
have_layouts hs = list_all (λ h. is_layout h.layout) hs

-- input k stands in cells at entry, and its row may hold anything
abbrev pub is_held : List Held → ℕ → Bool
is_held enter k = list_any (λ h. h.lit.node == k + 1) enter

-- the row is not that of an input that is held
abbrev pub is_read : List Held → BodyRef → Bool
is_read enter (B k) = true
is_read enter (RowC k) = true
is_read enter (In k) = not (is_held enter k)
is_read enter (Out j) = true
is_read enter (Spill i) = true

-- the command names no row of an input that is held
abbrev pub reads_rows : List Held → BodyCmd → Bool
reads_rows enter (Aap x y) = is_read enter x && is_read enter y
reads_rows enter (Ap x) = is_read enter x

-- the cells of each literal's layout have the literal's value on the inputs
abbrev pub CellsHold : Graph → (ℕ → Bool) → List Held → Column → Type 0
CellsHold g bits hs s = AllByRecursion (λ (h : Held). StandsIn s h.layout (value g bits h.lit)) hs

-- The column has these bits as the inputs of the graph: in an input's row, or in its cells where it
-- is held
pub record Enters (g : Graph) (bits : ℕ → Bool) (enter : List Held) (rows : Rows)
    (s : Column) : Type 0 where
  pub read : (k : ℕ) → k < g.inputs → is_held enter k ≡ false → s (D (rows.input k)) ≡ bits k
  pub held : CellsHold g bits enter s

-- The commands are legal, and name no row of an input that is held. Wherever the rows stand, and
-- whatever the other cells hold, from a column that has the inputs in rows and cells they leave
-- each output row with its literal's value, and the cells at exit with theirs; and they leave each
-- data row that is neither output nor spill as it was
pub record DoesHeld (g : Graph) (outs : List OutRow) (enter leave : List Held)
    (cmds : List BodyCmd) : Type 0 where
  pub legal : are_legal g.inputs (length outs) cmds ≡ true
  pub unread : list_all (reads_rows enter) cmds ≡ true
  pub values : (rows : Rows) (s : Column) (bits : ℕ → Bool) → AreApart rows g.inputs outs
      → Enters g bits enter rows s → (j : ℕ) → j < length outs
      → run_body rows cmds s (D (rows.output j)) ≡ value g bits (out_at outs j).lit
  pub leaves : (rows : Rows) (s : Column) (bits : ℕ → Bool) → AreApart rows g.inputs outs
      → Enters g bits enter rows s → CellsHold g bits leave (run_body rows cmds s)
  pub others : (rows : Rows) (s : Column) → AreApart rows g.inputs outs → (r : ℕ)
      → ((j : ℕ) → j < length outs → rows.output j ≢ r) → ((i : ℕ) → i < 32 → rows.spill i ≢ r)
      → run_body rows cmds s (D r) ≡ s (D r)

-- each input that is not held stands in its row, and no other cell holds a literal
abbrev pub rows_start : ℕ → List Held → Symbols
rows_start inputs enter (T k) = None
rows_start inputs enter (Dcc k) = None
rows_start inputs enter (C k) = None
rows_start inputs enter (D k) = if nat_lt k inputs && not (is_held enter k)
    then Some (record { node = k + 1; inverted = false }) else None

-- and each of these literals stands in the cells of its layout
abbrev pub taken : List Held → Symbols → Symbols
taken [] sy = sy
taken (h ∷ hs) sy = taken hs (sym_settle_lines (layout h.layout) (Some h.lit) sy)

-- what each cell holds after the commands, where each row of the body stands at a number of its own
-- and these literals stand in cells at entry
abbrev pub symbols_held : Graph → List OutRow → List Held → List BodyCmd → Symbols
symbols_held g outs enter cmds = sym_run g (map (bound (own_rows outs)) cmds)
    (taken enter (rows_start g.inputs enter))

-- each wordline of its layout reads the literal
abbrev pub IsLeft : Symbols → Held → Type 0
IsLeft sy h = AllByRecursion (λ (line : Line). sym_read sy line ≡ Some h.lit) (layout h.layout)

-- The list is legal and names no row of an input that is held, and each output's row and the cells
-- at exit end with their literals
pub record IsHeldChecked (g : Graph) (outs : List OutRow) (enter leave : List Held)
    (cmds : List BodyCmd) : Type 0 where
  pub legal : are_legal g.inputs (length outs) cmds ≡ true
  pub unread : list_all (reads_rows enter) cmds ≡ true
  pub ends : (j : ℕ) → j < length outs → symbols_held g outs enter cmds
      (D ((own_rows outs).output j)) ≡ Some (out_at outs j).lit
  pub leaves : AllByRecursion (IsLeft (symbols_held g outs enter cmds)) leave

-- the same of a body that holds nothing in cells
abbrev pub IsChecked : Graph → List OutRow → List BodyCmd → Type 0
IsChecked g outs cmds = IsHeldChecked g outs [] [] cmds
