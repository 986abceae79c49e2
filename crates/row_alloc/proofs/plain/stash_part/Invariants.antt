use Rattle.row_alloc.proofs.Common.{◌≡◌, ◌+◌, length, take, sum_by}
use Rattle.row_alloc.specs.Length.{output_length}
use Rattle.row_alloc.specs.Phases.{Prepares}
use Rattle.row_alloc.proofs.plain.stash_part.Given as goal

-- the outputs so far stand in spill rows
abbrev pub invariant-loop-j : goal.invariant-loop-j
invariant-loop-j l = record {
  prepares : Prepares l.m l.outs (length l.m.nodes) l.j l.cmds.items;
  count : length l.cmds.items + l.j ≡ length l.fn.cmds.items
      + sum_by output_length (take l.j l.outs);
}
