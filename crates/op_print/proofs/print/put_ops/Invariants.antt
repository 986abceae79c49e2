use Rattle.std.proofs.Common.{◌≡◌, ◌++◌, take, map}
use Rattle.op_text.specs.Language.{operation}
use Rattle.op_print.specs.Canonical.{canonical_text}
use Rattle.op_print.proofs.print.put_ops.Given as goal

abbrev pub invariant-loop-op : goal.invariant-loop-op
invariant-loop-op l =
    l.out.items ≡ l.fn.out.items ++ canonical_text (map operation (take l.op-index l.ops))
