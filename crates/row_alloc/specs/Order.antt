-- Inside the test that outputs are written late: what it asks of each command
-- Private contracts alone speak of this.
use Rattle.std.specs.Prelude.{◌≡◌, ◌≢◌, ℕ, ◌<◌, List, Option, Some, None}
use Rattle.row_alloc.specs.declared.body.BodyRef.{BodyRef}
use Rattle.row_alloc.specs.declared.body.BodyRef.TheVariants.{In, Out}
use Rattle.row_alloc.specs.declared.body.BodyCmd.{BodyCmd}
use Rattle.row_alloc.specs.declared.body.OutRow.{OutRow}
use Rattle.row_alloc.specs.Rows.{out_at}
use Rattle.row_alloc.specs.Body.{read_by, written_by, command_at}

-- the input in whose row a row of the body stands as an output
abbrev pub input_below : List OutRow → BodyRef → Option ℕ
input_below outs (Out j) = (out_at outs j).same
input_below outs _ = None

-- the input whose row a command writes
abbrev pub input_taken : List OutRow → BodyCmd → Option ℕ
input_taken outs cmd = input_below outs (written_by cmd)

-- the command at this place reads no input whose row an earlier one has written
abbrev pub ReadsKept : List OutRow → List BodyCmd → ℕ → Type 0
ReadsKept outs cmds q = (p k : ℕ) → p < q → read_by (command_at cmds q) ≡ In k
    → input_taken outs (command_at cmds p) ≢ Some k
