use Rattle.std.proofs.Common.{take}
use Rattle.op_text.specs.Spelling.{Each, IsName}
use Rattle.op_text.proofs.names.see_args.Given as goal

abbrev pub invariant-loop-arg : goal.invariant-loop-arg
invariant-loop-arg l = Each IsName (take l.arg-index l.args)
