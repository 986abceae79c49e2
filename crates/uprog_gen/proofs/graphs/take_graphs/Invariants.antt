use Rattle.uprog_gen.proofs.Common.{◌≡◌, ◌++◌, map}
use Rattle.uprog_gen.specs.Graphs.{graphed_of}
use Rattle.uprog_gen.proofs.Meaning.Taken.{pair_graphs}
use Rattle.uprog_gen.proofs.graphs.take_graphs.Given as goal

abbrev pub invariant-loop-s : goal.invariant-loop-s
invariant-loop-s l = map graphed_of l.graphs.items ≡ map graphed_of l.initial.graphs.items
    ++ pair_graphs (map (λ p. (p.0.now, p.1)) l.yielded)
