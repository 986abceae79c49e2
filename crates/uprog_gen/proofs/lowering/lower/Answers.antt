use Rattle.uprog_gen.proofs.Common.{[], map, refl, ap, operation, flow_of, slots_of}
use Rattle.loop_ir.specs.Plain.{steps_of}
use Rattle.uprog_gen.proofs.Naming.StageAt.{statement_ready, fronts_more}
use Rattle.uprog_gen.proofs.lowering.lower.Goals as goal

pub lower_statement-requires-clause-meets : goal.lower_statement-requires-clause-meets
lower_statement-requires-clause-meets c =
    let m = c.in_ok-names.names in
    (statement_ready (operation c.args.op.now) c.requires.meets (slots_of m) m.free_bit m.free_word
    c.in_ok-names.ensures c.args.op.now.body.items refl c.loop-s.s-index c.s-item.result
    (rw c.deref-s-items.ensures.value at c.loop-s-test.true)
    (rw c.deref-s-items.ensures.value at c.s-item.is)).meets

pub lower_statement-requires-clause-placed : goal.lower_statement-requires-clause-placed
lower_statement-requires-clause-placed c =
    let m = c.in_ok-names.names in
    (statement_ready (operation c.args.op.now) c.requires.meets (slots_of m) m.free_bit m.free_word
    c.in_ok-names.ensures c.args.op.now.body.items refl c.loop-s.s-index c.s-item.result
    (rw c.deref-s-items.ensures.value at c.loop-s-test.true)
    (rw c.deref-s-items.ensures.value at c.s-item.is)).placed

pub loop-s-init : goal.loop-s-init
loop-s-init c = record {
  statements = [];
  fronts = ap (map flow_of) c.new-flows.ensures.items;
  lowered = tt;
  forms = tt;
  written = tt;
}

pub loop-s-preserved : goal.loop-s-preserved
loop-s-preserved c =
    let m = c.in_ok-names.names in
    let made = c.in_ok-program.ensures in
    fronts_more (slots_of m) m.free_bit m.free_word c.args.op.now.body.items c.loop-s.s-index
    c.s-item.result c.loop-s.flows.items c.keep.new.items.items c.in_ok-flow.flow
    (steps_of c.in_ok-program.program) (rw (c.deref-s-items.ensures.value) at c.loop-s-test.true)
    (rw (c.deref-s-items.ensures.value) at c.s-item.is) c.in_ok-keep.ensures
    c.in_ok-flow.ensures.flow c.loop-s.invariant made.lowered made.form made.written
