use Rattle.row_alloc.proofs.Common.{◌≡◌, ◌+◌, length}
use Rattle.row_alloc.proofs.Written.{Writes}
use Rattle.row_alloc.proofs.plain.write_part.Given as goal

-- the outputs so far stand in their rows
abbrev pub invariant-loop-j : goal.invariant-loop-j
invariant-loop-j l = record {
  writes : Writes l.m l.outs l.j l.cmds.items;
  count : length l.cmds.items ≡ length l.fn.cmds.items + l.j;
}
