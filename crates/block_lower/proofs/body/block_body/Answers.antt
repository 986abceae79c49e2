use Rattle.block_lower.proofs.Common.{sym, subst, arith, ◌∙◌, ap, length-map, equation, slots_of}
use Rattle.mig_rewrite.proofs.Keeping.{keeps-twice}
use Rattle.loop_ir.specs.Plain.{Block}
use Rattle.block_lower.specs.Inputs.{AreNumbered, block_from}
use Rattle.block_lower.specs.Form.{places_of, IsBlockBody}
use Rattle.block_lower.specs.Choice.{AreFor}
use Rattle.block_lower.proofs.Fitting.{left-own}
use Rattle.block_lower.proofs.Making.{room, parts-few, inputs-below, inputs-most, output-values}
use Rattle.block_lower.proofs.body.block_body.Goals as goal

pub inputs_of-requires : goal.inputs_of-requires
inputs_of-requires c = record { room = room c.args.lets.now c.args.assigns.now c.requires.meets.1 }

pub build-requires : goal.build-requires
build-requires c = record { room = parts-few c.args.lets.now c.args.assigns.now c.requires.meets.1 }

pub from_aoi-requires-clause-input : goal.from_aoi-requires-clause-input
from_aoi-requires-clause-input c =
    let inputs = c.in_ok-inputs.inputs in
    let num = subst (λ names. AreNumbered names inputs.numbers) c.in_ok-inputs.ensures.order
    c.in_ok-inputs.ensures.numbered in
    inputs-below c.args.lets.now c.args.assigns.now c.requires.meets.1 inputs.numbers num
    c.in_ok-gates.gates.nodes.items c.in_ok-gates.ensures.held

pub returns-clause-is : goal.returns-clause-is
returns-clause-is c = λ s.
    let slots = slots_of c.args.names.now in
    let lets = c.args.lets.now in
    let assigns = c.args.assigns.now in
    let inputs = c.in_ok-inputs.inputs in
    let gates = c.in_ok-gates.gates in
    let first = c.in_ok-from_aoi.field-0 in
    let graph = c.in_ok-least.least.choice.graph in
    let num = subst (λ names. AreNumbered names inputs.numbers) c.in_ok-inputs.ensures.order
    c.in_ok-inputs.ensures.numbered in
    let r = c.in_ok-graph.ensures in
    let m = c.in_ok-least.ensures.stands in
    let keeps = keeps-twice first.mig c.in_ok-graph.graph.mig graph.mig first.outs.items
    c.in_ok-graph.graph.outs.items graph.outs.items r.keeps m.keeps in
    subst (IsBlockBody slots (block_from c.args.down s lets assigns)) (sym c.body_at.ensures)
    (record {
      reads = c.in_ok-reads.ensures ∙ ap (places_of slots c.args.down) (c.deref.ensures.value
          ∙ c.in_ok-inputs.ensures.order);
      writes = c.in_ok-writes.ensures;
      as_many = keeps.long ∙ c.in_ok-from_aoi.ensures.long ∙ c.in_ok-gates.ensures.long
          ∙ sym (length-map assigns equation);
      inputs = let k = inputs-most lets assigns c.requires.meets.1 inputs.numbers num
          gates.nodes.items c.in_ok-gates.ensures.held first.mig.inputs
          c.in_ok-from_aoi.ensures.inputs in let e = keeps.inputs in omega (arith, k, e);
      values = output-values lets assigns c.requires.meets.1 inputs.numbers num gates.nodes.items
          c.in_ok-gates.ensures.held gates.outs.items first.mig graph.mig first.outs.items
          graph.outs.items c.in_ok-gates.ensures.value c.in_ok-from_aoi.ensures.value keeps
          c.in_ok-from_aoi.ensures.long c.in_ok-gates.ensures.long;
      nodes = let a = m.count in let b = r.count in let d = c.in_ok-from_aoi.ensures.count in
          let e = c.in_ok-gates.ensures.gates in omega (arith, a, b, d, e);
      graph = c.inputs.ensures.graph;
      named = m.named;
      reduced = m.reduced;
    })

pub returns-clause-found : goal.returns-clause-found
returns-clause-found c =
    let made = c.in_ok-least.ensures in
    let choice = c.in_ok-least.least.choice in
    let g = choice.graph.mig in
    let outs = choice.graph.outs.items in
    let cmds = choice.found.items in
    subst (λ (b : Block). AreFor b.reads b.writes b.graph b.outs b.graph b.outs b.found)
    (sym c.body_at.ensures)
    (subst (λ ps. AreFor c.in_ok-reads.reads.items ps g outs g outs cmds) c.deref-3.ensures.value
    (subst (λ ps. AreFor ps c.deref-3.result.now g outs g outs cmds) c.deref-2.ensures.value
    (left-own c.deref-2.result.now c.deref-3.result.now c.in_ok-graph.graph.mig
    c.in_ok-graph.graph.outs.items g outs cmds made.found)))
