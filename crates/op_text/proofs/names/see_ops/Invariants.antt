use Rattle.std.proofs.Common.{take}
use Rattle.op_text.specs.Language.{operation}
use Rattle.op_text.specs.Spelling.{Each, HasOperation}
use Rattle.op_text.proofs.names.see_ops.Given as goal

abbrev pub invariant-loop-op : goal.invariant-loop-op
invariant-loop-op l = Each (λ x. HasOperation (operation x)) (take l.op-index l.ops)
