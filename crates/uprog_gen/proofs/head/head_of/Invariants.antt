use Rattle.uprog_gen.proofs.Common.{◌≡◌, map, take, Param}
use Rattle.uprog_gen.proofs.head.head_of.Given as goal

abbrev pub invariant-loop-param : goal.invariant-loop-param
invariant-loop-param l = l.sources.items ≡ map (λ (p : Param). p.kind)
    (take l.param-index l.op.params.items)
