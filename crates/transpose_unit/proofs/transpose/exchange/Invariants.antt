use Rattle.transpose_unit.proofs.Exchanges.{SoFar}
use Rattle.transpose_unit.proofs.transpose.exchange.Given as goal

abbrev pub invariant-loop-k : goal.invariant-loop-k
invariant-loop-k l = SoFar l.weight l.k l.fn.m l.m
