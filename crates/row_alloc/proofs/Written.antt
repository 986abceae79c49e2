-- The end of the plain body: outputs written from spill rows, after all reads of inputs
use Rattle.row_alloc.proofs.Common.{not, list_all, D, Column, Graph, value}
use Rattle.std.specs.Prelude.{◌≡◌, ◌≢◌, ℕ, ◌+◌, ◌<◌, Bool, true, false, List, ◌++◌, length}
use Rattle.row_alloc.specs.declared.body.BodyRef.{BodyRef}
use Rattle.row_alloc.specs.declared.body.BodyRef.TheVariants.{In}
use Rattle.row_alloc.specs.declared.body.BodyCmd.{BodyCmd}
use Rattle.row_alloc.specs.declared.body.OutRow.{OutRow}
use Rattle.row_alloc.specs.Rows.{Rows, run_body, out_at, AreApart}
use Rattle.row_alloc.specs.Legal.{are_legal}
use Rattle.row_alloc.specs.Body.{read_by}
use Rattle.row_alloc.specs.Phases.{inputs_of, keep_outputs}

-- All outputs stand in spill rows and the first m in their own, and no other row has changed
pub record IsWritten (g : Graph) (outs : List OutRow) (rows : Rows) (s : Column) (m : ℕ)
    (t : Column) : Type 0 where
  pub done : (j : ℕ) → j < m → t (D (rows.output j))
      ≡ value g (inputs_of rows s) (out_at outs j).lit
  pub stash : (j : ℕ) → j < length outs → t (D (rows.spill (length g.nodes + j)))
      ≡ value g (inputs_of rows s) (out_at outs j).lit
  pub kept : (r : ℕ) → ((j : ℕ) → j < length outs → rows.output j ≢ r)
      → ((i : ℕ) → i < 32 → rows.spill i ≢ r) → t (D r) ≡ s (D r)

-- the row is an input's
abbrev pub is_in : BodyRef → Bool
is_in (In k) = true
is_in _ = false

-- no command reads an input
abbrev pub read_no_input : List BodyCmd → Bool
read_no_input cmds = list_all (λ c. not (is_in (read_by c))) cmds

-- Commands that write no output, and then commands that read no input
pub record IsTwoParts (cmds : List BodyCmd) : Type 0 where
  pub first : List BodyCmd
  pub rest : List BodyCmd
  pub whole : cmds ≡ first ++ rest
  pub early : keep_outputs first ≡ true
  pub late : read_no_input rest ≡ true

-- The commands of a whole plain body: what they leave, in two parts so that no output is written
-- over an input still to be read.
pub record Writes (g : Graph) (outs : List OutRow) (m : ℕ) (cmds : List BodyCmd) : Type 0 where
  pub legal : are_legal g.inputs (length outs) cmds ≡ true
  pub parts : IsTwoParts cmds
  pub written : (rows : Rows) (s : Column) → AreApart rows g.inputs outs
      → IsWritten g outs rows s m (run_body rows cmds s)
