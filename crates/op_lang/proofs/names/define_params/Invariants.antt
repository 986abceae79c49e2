use Rattle.op_lang.proofs.Common.{◌≡◌, ◌++◌, take}
use Rattle.op_lang.proofs.names.define_params.Given as goal

abbrev pub invariant-loop-param : goal.invariant-loop-param
invariant-loop-param l = l.defined.items ≡ l.initial.defined.items ++ take l.param-index l.params
