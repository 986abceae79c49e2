use Rattle.uprog_gen.proofs.Common.{◌≤◌, refl, arith, AllFlow, flow_size, body_cost, IsSmall}
use Rattle.uprog_gen.proofs.Common.{shape_of}
use Rattle.uprog_gen.proofs.Coding.Emitted.{next_flow, flow_at}
use Rattle.uprog_gen.proofs.Coding.Joined.{code_is}
use Rattle.uprog_gen.proofs.entry.compile_entry.Goals as goal

pub loop-flow-init : goal.loop-flow-init
loop-flow-init c = rw c.new-code.ensures.items (refl, omega arith)

pub emit_flow-requires-clause-small : goal.emit_flow-requires-clause-small
emit_flow-requires-clause-small c = flow_at (AllFlow IsSmall) c.args.flows.now
    c.loop-flow.flow-index c.flow-item.result c.requires.small c.loop-flow-test.true c.flow-item.is

pub emit_flow-requires-clause-room : goal.emit_flow-requires-clause-room
emit_flow-requires-clause-room c = omega (
  arith,
  flow_at (λ f. flow_size body_cost f ≤ 256) c.args.flows.now c.loop-flow.flow-index
      c.flow-item.result c.requires.short c.loop-flow-test.true c.flow-item.is,
  c.loop-flow.invariant.1,
  c.requires.few,
  c.loop-flow-test.true,
)

pub loop-flow-preserved : goal.loop-flow-preserved
loop-flow-preserved c = (
  next_flow c.args.flows.now c.loop-flow.flow-index c.flow-item.result
      c.loop-flow.code.items c.emit_flow.new.code.items c.loop-flow-test.true c.flow-item.is
      c.loop-flow.invariant.0 c.in_ok-emit_flow.ensures.emits,
  omega (
    arith,
    flow_at (λ f. flow_size body_cost f ≤ 256) c.args.flows.now c.loop-flow.flow-index
        c.flow-item.result c.requires.short c.loop-flow-test.true c.flow-item.is,
    c.loop-flow.invariant.1,
    c.in_ok-emit_flow.ensures.short,
  ),
)

pub returns-clause-code : goal.returns-clause-code
returns-clause-code c = code_is (shape_of c.args.head) c.args.flows.now c.loop-flow.flow-index
    c.loop-flow.code.items c.keep.new.items.items c.requires.few (omega arith)
    c.loop-flow.invariant.0 c.in_ok-keep.ensures
