use Rattle.uprog_gen.proofs.Common.{map, length, sym, ap, ◌∙◌, subst, arith, length-map, operation}
use Rattle.uprog_gen.proofs.Common.{Head, shape_of, microprogram_of, flow_of, slots_of}
use Rattle.uprog_gen.specs.Entries.{IsCodeOf}
use Rattle.uprog_gen.specs.Graphs.{graphs_in, IsGraphed}
use Rattle.uprog_gen.proofs.Meaning.Entries.{flows_small, flows_short, flows_few, entry_coded}
use Rattle.uprog_gen.proofs.Meaning.Entries.{entry_compiled}
use Rattle.uprog_gen.proofs.Meaning.Taken.{entry_graphed, entry_exact}
use Rattle.uprog_gen.proofs.ops.compile_op.Goals as goal

pub compile_entry-requires-clause-small : goal.compile_entry-requires-clause-small
compile_entry-requires-clause-small c =
    let l = c.in_ok-lowered.lowered in
    rw c.deref.ensures.value (flows_small (operation c.args.op.now) c.requires.meets
    (slots_of l.names) l.names.free_bit l.names.free_word c.in_ok-lowered.ensures.names
    (map flow_of l.flows.items) c.in_ok-lowered.ensures.fronts)

pub compile_entry-requires-clause-short : goal.compile_entry-requires-clause-short
compile_entry-requires-clause-short c =
    let l = c.in_ok-lowered.lowered in
    rw c.deref.ensures.value (flows_short (operation c.args.op.now) c.requires.meets
    (slots_of l.names) l.names.free_bit l.names.free_word c.in_ok-lowered.ensures.names
    (map flow_of l.flows.items) c.in_ok-lowered.ensures.fronts)

pub compile_entry-requires-clause-few : goal.compile_entry-requires-clause-few
compile_entry-requires-clause-few c =
    let l = c.in_ok-lowered.lowered in
    omega (
      arith,
      flows_few (operation c.args.op.now) c.requires.meets (slots_of l.names) l.names.free_bit
          l.names.free_word c.in_ok-lowered.ensures.names (map flow_of l.flows.items)
          c.in_ok-lowered.ensures.fronts,
      length-map l.flows.items flow_of,
      ap length c.deref.ensures.value,
    )

pub returns-clause-compiled : goal.returns-clause-compiled
returns-clause-compiled c =
    let l = c.in_ok-lowered.lowered in
    let m = l.names in
    let is = c.in_ok-lowered.ensures.names in
    let f = c.in_ok-lowered.ensures.fronts in
    let op = operation c.args.op.now in
    let e = c.in_ok-entry.entry in
    let head = c.in_ok-entry.ensures.head in
    let shape = c.head_of.ensures.shape in
    let code : IsCodeOf (shape_of e.head) f.statements e.code.items =
    entry_coded op c.requires.meets (slots_of m) m.free_bit m.free_word is
    (map flow_of l.flows.items) f c.head_of.result e head shape
    (rw c.deref.ensures.value at c.in_ok-entry.ensures.code) in
    record {
      slots = slots_of m;
      free_bit = m.free_bit;
      free_word = m.free_word;
      statements = f.statements;
      from = entry_compiled op c.requires.meets (slots_of m) m.free_bit m.free_word is f.statements
          f.lowered (microprogram_of e) (ap (λ (h : Head). h.name) head ∙ c.head_of.ensures.name)
          (ap shape_of head ∙ shape) code;
      forms = f.forms;
      written = f.written;
      exact = entry_exact op c.requires.meets (slots_of m) m.free_bit m.free_word is f.statements
          f.written (microprogram_of e) code;
    }

pub returns-clause-graphs : goal.returns-clause-graphs
unfolding returns-clause-compiled
returns-clause-graphs c =
    let l = c.in_ok-lowered.lowered in
    let m = l.names in
    let is = c.in_ok-lowered.ensures.names in
    let f = c.in_ok-lowered.ensures.fronts in
    let op = operation c.args.op.now in
    let e = c.in_ok-entry.entry in
    let code : IsCodeOf (shape_of e.head) f.statements e.code.items =
    entry_coded op c.requires.meets (slots_of m) m.free_bit m.free_word is
    (map flow_of l.flows.items) f c.head_of.result e c.in_ok-entry.ensures.head
    c.head_of.ensures.shape (rw c.deref.ensures.value at c.in_ok-entry.ensures.code) in (
      graphs_in op.body (map flow_of l.flows.items),
      c.in_ok-take_graphs.ensures,
      subst (λ fs. IsGraphed (microprogram_of e) op (graphs_in op.body fs)) (sym f.fronts)
          (entry_graphed op c.requires.meets (slots_of m) m.free_bit m.free_word is
          (microprogram_of e) (returns-clause-compiled c) f.written f.forms code),
    )
