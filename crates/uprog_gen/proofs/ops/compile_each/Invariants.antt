use Rattle.uprog_gen.proofs.Common.{map, take, operation, microprogram_of}
use Rattle.uprog_gen.specs.Programs.{AreCompiled}
use Rattle.uprog_gen.specs.Graphs.{graphed_of, AreGraphed}
use Rattle.uprog_gen.proofs.ops.compile_each.Given as goal

abbrev pub invariant-loop-op : goal.invariant-loop-op
invariant-loop-op l =
    AreCompiled (map microprogram_of l.entries.items) (map operation (take l.op-index l.ops))
    × AreGraphed (map microprogram_of l.entries.items) (map operation (take l.op-index l.ops))
    (map graphed_of l.graphs.items)
