use Rattle.uprog_gen.proofs.Common.{operation}
use Rattle.uprog_gen.proofs.Naming.LaidOut.{IsLaidTo}
use Rattle.uprog_gen.proofs.layout.lay_out.Given as goal

abbrev pub invariant-loop-stmt : goal.invariant-loop-stmt
invariant-loop-stmt l = IsLaidTo (operation l.op) l.stmt-index l.names
