use Rattle.std.proofs.Common.{◌≡◌, ◌++◌, take}
use Rattle.std.specs.List.{flat_map}
use Rattle.op_print.specs.Canonical.{after_comma, spelled}
use Rattle.op_print.proofs.lists.put_more_arguments.Given as goal

abbrev pub invariant-loop-arg : goal.invariant-loop-arg
invariant-loop-arg l =
    l.out.items ≡ l.fn.out.items ++ flat_map (after_comma spelled)
    (take l.arg-index l.args)
