use Rattle.std.proofs.Common.{◌≡◌, ◌++◌, take}
use Rattle.std.specs.List.{flat_map}
use Rattle.op_print.specs.Canonical.{after_comma, param_text}
use Rattle.op_print.proofs.lists.put_more_params.Given as goal

abbrev pub invariant-loop-param : goal.invariant-loop-param
invariant-loop-param l =
    l.out.items ≡ l.fn.out.items ++ flat_map (after_comma param_text)
    (take l.param-index l.params)
