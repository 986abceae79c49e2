use Rattle.std.proofs.Common.{take}
use Rattle.op_text.specs.Spelling.{Each, HasParam}
use Rattle.op_text.proofs.names.see_params.Given as goal

abbrev pub invariant-loop-param : goal.invariant-loop-param
invariant-loop-param l = Each HasParam (take l.param-index l.params)
