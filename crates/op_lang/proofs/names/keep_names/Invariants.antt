use Rattle.op_lang.proofs.Common.{◌≡◌, ◌++◌, map, take, Param}
use Rattle.op_lang.proofs.names.keep_names.Given as goal

abbrev pub invariant-loop-param : goal.invariant-loop-param
invariant-loop-param l = l.names.items ≡ l.initial.names.items
    ++ map (λ (p : Param). p.name) (take l.param-index l.params)
