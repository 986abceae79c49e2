use Rattle.row_alloc.proofs.Common.{◌<◌, ℕ}
use Rattle.row_alloc.specs.Order.{ReadsKept}
use Rattle.row_alloc.proofs.order.writes_late.Given as goal

-- the commands so far read only what is kept
abbrev pub invariant-loop-at : goal.invariant-loop-at
invariant-loop-at l = (q : ℕ) → q < l.at → ReadsKept l.outs l.cmds q
