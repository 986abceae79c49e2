-- How many commands the plain body has
use Rattle.std.specs.Prelude.{ℕ, ◌+◌, ◌*◌, ◌==◌, Bool, not, ◌&&◌, if◌then◌else◌, sum_by, List}
use Rattle.std.specs.Prelude.{length}
use Rattle.mig_graph.specs.Literals.{is_complemented}
use Rattle.mig_graph.specs.Graph.{Graph}
use Rattle.row_alloc.specs.declared.body.OutRow.{OutRow}
use Rattle.row_alloc.specs.Rows.{out_at}

-- there is no majority node, and the only output is a constant or an input that is not inverted
abbrev pub is_direct : Graph → List OutRow → Bool
is_direct g outs = (length g.nodes == 0) && ((length outs == 1)
    && not (is_complemented (out_at outs 0).lit))

-- the commands of one output: three where an input or a node is inverted, else two
abbrev pub output_length : OutRow → ℕ
output_length o = if is_complemented o.lit then 3 else 2

-- four commands a node and those of the outputs, or one alone
abbrev pub plain_length : Graph → List OutRow → ℕ
plain_length g outs = if is_direct g outs then 1 else 4 * length g.nodes + sum_by output_length outs
