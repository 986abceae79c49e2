use Rattle.std.proofs.Common.{length-append, ◌≡◌, ◌<◌, ◌≤◌, ◌+◌, ◌++◌, ◌∷◌, [], ℕ, Bool, List}
use Rattle.std.proofs.Common.{length, ◌∙◌, sym, arith}
use Rattle.std.proofs.lemmas.Grind.{common_steps}
use Rattle.mig_graph.specs.declared.Lit.{Lit}
use Rattle.mig_graph.specs.Graph.{Graph, value, size_of}
use Rattle.aoi_graph.specs.declared.AoiNode.{AoiNode}
use Rattle.mig_graph.specs.Outputs.{lit_at}
use Rattle.mig_graph.proofs.OutputLaws.{each-more}
use Rattle.aoi_graph.specs.Gates.{gate_value, aoi_values, aoi_at, AreLower}
use Rattle.aoi_graph.proofs.GateLaws.{aoi-at-node, gate-below}
use Rattle.mig_graph.proofs.gates.translate.Goals as goal

-- the values of i literals and of one more
values-more : (nodes : List AoiNode) (g h : Graph) (lits more : List Lit) (l : Lit) (i : ℕ)
    (bits : ℕ → Bool) → length lits ≡ i → more ≡ lits ++ l ∷ [] → AreLower nodes → i < length nodes
    → ((k : ℕ) → k < i → (lit_at lits k).node < size_of g)
    → ((k : ℕ) → k < i → value g bits (lit_at lits k) ≡ aoi_values nodes bits k)
    → ((x : Lit) → x.node < size_of g → value h bits x ≡ value g bits x)
    → value h bits l ≡ gate_value bits (λ n. value g bits (lit_at lits n)) (aoi_at nodes i)
    → (k : ℕ) → k < i + 1 → value h bits (lit_at more k) ≡ aoi_values nodes bits k
values-more nodes g h lits more l i bits long e lower small named values kept new =
    each-more (λ k x. value h bits x ≡ aoi_values nodes bits k) lits more l i long e (λ k b.
    kept (lit_at lits k) (named k b) ∙ values k b)
    (new ∙ gate-below bits (λ n. value g bits (lit_at lits n)) (aoi_values nodes bits) i
    (aoi_at nodes i) values (lower i small) ∙ sym (aoi-at-node bits nodes i lower small))

grown : (g h : Graph) (n : ℕ) → h.inputs ≡ g.inputs → length g.nodes ≤ length h.nodes
    → n < size_of g → n < size_of h
grown g h n e l b = omega arith

pub loop-node-preserved : goal.loop-node-preserved
loop-node-preserved c =
    let so = c.loop-node.invariant in
    let g = c.loop-node.mig in
    let h = c.gate.new.mig in
    let e = c.in_ok-keep.ensures in record {
      inputs = c.gate.ensures.inputs ∙ so.inputs;
      long = rw e (omega (
        arith,
        length-append c.loop-node.lits.items (c.in_ok-l.l ∷ []),
        c.loop-node.invariant.long,
      ));
      named = each-more (λ k x. x.node < size_of c.gate.new.mig) c.loop-node.lits.items _
          c.in_ok-l.l c.loop-node.node-index so.long e (λ k b.
          grown g h (lit_at c.loop-node.lits.items k).node c.gate.ensures.inputs
          c.gate.ensures.least (so.named k b)) c.in_ok-l.ensures.named;
      values = λ bits. values-more c.args.nodes.now g h c.loop-node.lits.items _ c.in_ok-l.l
          c.loop-node.node-index bits so.long e c.requires.lower c.loop-node-test.true so.named
          (so.values bits) (c.in_ok-l.ensures.kept bits)
          (rw c.deref.ensures.value at (c.in_ok-l.ensures.value bits));
      count = grind (arith, common_steps, c.in_ok-l.ensures.count, c.loop-node.invariant.count);
    }
