use Rattle.uprog_gen.proofs.Common.{◌≤◌, map, length, subst, arith, take_all, operation}
use Rattle.uprog_gen.proofs.Common.{OperationMeets, microprogram_of}
use Rattle.uprog_gen.specs.Programs.{AreCompiled}
use Rattle.uprog_gen.specs.Graphs.{graphed_of, AreGraphed}
use Rattle.uprog_gen.proofs.Meaning.Entries.{op_at, compiled_more}
use Rattle.uprog_gen.proofs.Meaning.Taken.{graphed_more}
use Rattle.uprog_gen.proofs.ops.compile_each.Goals as goal

pub compile_op-requires : goal.compile_op-requires
compile_op-requires c = record {
  meets = op_at OperationMeets c.args.ops.now c.loop-op.op-index c.op-item.result c.requires.meets
      c.loop-op-test.true c.op-item.is;
}

pub loop-op-preserved : goal.loop-op-preserved
loop-op-preserved c =
    let items = c.args.ops.now in
    let entry = c.in_ok-entry.entry in
    let old = c.loop-op.entries.items in
    let new = c.keep.new.items.items in
    let g = c.in_ok-entry.ensures.graphs in (
      compiled_more items c.loop-op.op-index c.op-item.result old new entry c.loop-op-test.true
          c.op-item.is c.in_ok-keep.ensures c.loop-op.invariant.0 c.in_ok-entry.ensures.compiled,
      graphed_more items c.loop-op.op-index c.op-item.result old new entry
          (map graphed_of c.loop-op.graphs.items) (map graphed_of c.compile_op.new.graphs.items) g.0
          c.loop-op-test.true c.op-item.is c.in_ok-keep.ensures g.1 c.loop-op.invariant.1 g.2,
    )

pub returns-clause-compiled : goal.returns-clause-compiled
returns-clause-compiled c =
    let es = map microprogram_of c.loop-op.entries.items in
    let le : length c.args.ops.now ≤ c.loop-op.op-index = omega (arith, c.loop-op-test.false) in
    subst (λ l. AreCompiled es (map operation l)) (take_all c.loop-op.op-index c.args.ops.now le)
    c.loop-op.invariant.0

pub returns-clause-graphs : goal.returns-clause-graphs
returns-clause-graphs c =
    let es = map microprogram_of c.loop-op.entries.items in
    let le : length c.args.ops.now ≤ c.loop-op.op-index = omega (arith, c.loop-op-test.false) in
    subst (λ l. AreGraphed es (map operation l) (map graphed_of c.loop-op.graphs.items))
    (take_all c.loop-op.op-index c.args.ops.now le) c.loop-op.invariant.1
