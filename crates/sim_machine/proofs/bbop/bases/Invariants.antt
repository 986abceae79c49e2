use Rattle.sim_machine.proofs.Common.{◌≡◌, take, map, rows_of}
use Rattle.sim_machine.proofs.bbop.bases.Given as goal

abbrev pub invariant-loop-src : goal.invariant-loop-src
invariant-loop-src l = l.bases.items ≡ map (λ p. (rows_of l.table.pairs p).base)
    (take l.src-index l.srcs)
