use Rattle.row_alloc.proofs.Common.{◌≢◌, ◌<◌, ℕ, Some}
use Rattle.row_alloc.specs.Body.{command_at}
use Rattle.row_alloc.specs.Order.{input_taken}
use Rattle.row_alloc.proofs.order.is_kept.Given as goal

-- none of the commands so far writes there
abbrev pub invariant-loop-p : goal.invariant-loop-p
invariant-loop-p l = (p : ℕ) → p < l.p → input_taken l.outs (command_at l.cmds p) ≢ Some l.k
