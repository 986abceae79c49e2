use Rattle.row_alloc.proofs.Common.{◌≡◌, ◌*◌, List, length}
use Rattle.row_alloc.specs.Phases.{Prepares}
use Rattle.row_alloc.specs.declared.body.OutRow.{OutRow}
use Rattle.row_alloc.proofs.plain.node_part.Given as goal

-- the nodes so far stand in their spill rows
abbrev pub invariant-loop-k : goal.invariant-loop-k
invariant-loop-k l = record {
  prepares : (outs : List OutRow) → Prepares l.m outs l.k 0 l.cmds.items;
  count : length l.cmds.items ≡ 4 * l.k;
}
