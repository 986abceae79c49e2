use Rattle.host_edge.specs.Views.{Known}
use Rattle.host_edge.specs.Sends.{AppendsUpTo}
use Rattle.host_edge.proofs.stream.write_whole.Given as goal

abbrev pub invariant-loop : goal.invariant-loop
invariant-loop g l = Known (AppendsUpTo l.rest l.bytes) (g.W.Write.contents l.fn.out)
    (g.W.Write.contents l.out)
