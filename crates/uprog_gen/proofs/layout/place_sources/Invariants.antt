use Rattle.uprog_gen.proofs.Common.{take}
use Rattle.uprog_gen.specs.Laying.{LaysSources}
use Rattle.uprog_gen.proofs.layout.place_sources.Given as goal

abbrev pub invariant-loop-k : goal.invariant-loop-k
invariant-loop-k l = LaysSources 0 (take l.k l.params) l.initial.names l.names
