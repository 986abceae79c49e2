use Rattle.mig_rewrite.proofs.Common.{◌≡◌, ℕ, ◌+◌, ◌<◌, ◌≤◌, Bool, [], ◌∷◌, length, length-append}
use Rattle.mig_rewrite.proofs.Common.{arith, sym, ◌∙◌, subst, ap, true, inl, inr, None, cases_lt}
use Rattle.mig_rewrite.proofs.Common.{Lit, complement_if, flip_if, Graph, size_of, value, values}
use Rattle.mig_rewrite.proofs.Common.{start, values-below, lit_at, each-more, value-complemented}
use Rattle.mig_rewrite.specs.Plan.{part_of, cost, is_marked}
use Rattle.mig_rewrite.proofs.Steps.{part-lower, values-more, count-more, merged-spared}
use Rattle.mig_rewrite.proofs.Steps.{spared-none, marked-more}
use Rattle.mig_rewrite.proofs.Planning.{each-map}
use Rattle.mig_rewrite.proofs.rebuild.remade.Goals as goal

-- the constant and the inputs are the same in both graphs
start-same : (g h : Graph) (bits : ℕ → Bool) (j : ℕ) → h.inputs ≡ g.inputs → j < g.inputs + 1
    → values h bits j ≡ values g bits j
start-same g h bits j e b = values-below (h.inputs + 1) h.nodes (start bits) j (omega arith)
    ∙ sym (values-below (g.inputs + 1) g.nodes (start bits) j b)

grown : (g h : Graph) (n : ℕ) → h.inputs ≡ g.inputs → length g.nodes ≤ length h.nodes
    → n < size_of g → n < size_of h
grown g h n e l b = omega arith

-- an output of the new graph has its old value
output : (g h : Graph) (bits : ℕ → Bool) (x y l : Lit) → x ≡ complement_if l.inverted y
    → value h bits y ≡ values g bits l.node → value h bits x ≡ value g bits l
output g h bits x y l e v = rw e (value-complemented (values h bits) l.inverted y
    ∙ ap (flip_if l.inverted) v)

pub loop-k-init : goal.loop-k-init
loop-k-init c =
    let g = c.args.m.now.mig in
    let mig = c.in_ok-mig.mig in
    let inputs : mig.inputs ≡ g.inputs = ap (λ (g : Graph). g.inputs) c.in_ok-mig.ensures
    ∙ c.inputs-inputs.ensures.inputs in
    let nodes : length mig.nodes ≡ 0 = ap (λ (g : Graph). length g.nodes) c.in_ok-mig.ensures in
    let same = c.inputs-inputs.ensures.inputs in
    let long = c.in_ok-lits.ensures.long in
    let none = spared-none g c.args.m.now.outs.items c.args.merge c.requires.merge in
    record {
      inputs = inputs;
      long = long;
      named = λ k b. let d : k < c.inputs-inputs.result + 1 = omega arith in
          subst (λ (l : Lit). l.node < size_of mig) (sym (c.in_ok-lits.ensures.each k d))
          (omega arith);
      values = λ bits j b _. ap (value mig bits) (c.in_ok-lits.ensures.each j b)
          ∙ start-same g mig bits j inputs (omega arith);
      count = rw same (omega arith);
      marked = λ _ _ j a b. absurd (omega arith);
    }

pub make-requires-clause-within : goal.make-requires-clause-within
make-requires-clause-within c =
    let g = c.args.m.now.mig in
    let k = c.loop-k.k in
    let lits = c.loop-k.lits.items in
    let marks = c.in_ok-marks.marks.items in
    let part : c.part_of-part.result ≡ part_of g marks c.args.merge k =
    rw c.deref.ensures.value at c.part_of-part.ensures in
    let long = c.loop-k.invariant.long in
    let same = c.inputs-inputs.ensures.inputs in
    rw (part, c.deref-in-loop-k.ensures.value) (each-map (λ l. l.node < k) (λ l. l.node
    < length lits) (part_of g marks c.args.merge k) (λ l b. omega arith)
    (part-lower g c.args.m.now.outs.items marks c.args.merge k c.inputs-inputs.ensures.graph
    c.requires.merge (omega arith) (omega arith)))

pub make-requires-clause-room : goal.make-requires-clause-room
make-requires-clause-room c =
    let g = c.args.m.now.mig in
    let outs = c.args.m.now.outs.items in
    let k = c.loop-k.k in
    let marks = c.in_ok-marks.marks.items in
    let part : c.part_of-part.result ≡ part_of g marks c.args.merge k =
    rw c.deref.ensures.value at c.part_of-part.ensures in
    let same = c.inputs-inputs.ensures.inputs in
    let so = c.loop-k.invariant in
    let n = c.inputs-inputs.result + 1 + length c.loop-k.mig.nodes in
    let more = count-more g outs marks c.args.merge k n c.requires.merge c.in_ok-marks.ensures.plan
    so.count in
    let spared = merged-spared g outs c.args.merge (k + 1) c.inputs-inputs.ensures.graph
    c.requires.merge in
    let small = c.inputs-inputs.ensures.graph.small in
    let inputs = so.inputs in
    rw part (omega arith)

pub loop-k-preserved : goal.loop-k-preserved
loop-k-preserved c =
    let g = c.args.m.now.mig in
    let outs = c.args.m.now.outs.items in
    let k = c.loop-k.k in
    let h = c.loop-k.mig in
    let next = c.make.new.mig in
    let lits = c.loop-k.lits.items in
    let l = c.in_ok-l.l in
    let marks = c.in_ok-marks.marks.items in
    let part : c.part_of-part.result ≡ part_of g marks c.args.merge k =
    rw c.deref.ensures.value at c.part_of-part.ensures in
    let same = c.inputs-inputs.ensures.inputs in
    let so = c.loop-k.invariant in
    let long = so.long in
    let e = c.in_ok-keep.ensures in
    let n = c.inputs-inputs.result + 1 + length c.loop-k.mig.nodes in
    let more = count-more g outs marks c.args.merge k n c.requires.merge c.in_ok-marks.ensures.plan
    so.count in
    let now : length c.keep.new.items.items ≡ k + 1 =
    rw e (omega (arith, length-append lits (l ∷ []))) in
    let count = rw part at c.in_ok-l.ensures.count in
    let new = λ (bits : ℕ → Bool). rw (part, c.deref-in-loop-k.ensures.value) at
    (c.in_ok-l.ensures.value bits) in
    record {
      inputs = c.make.ensures.inputs ∙ so.inputs;
      long = now;
      named = λ j b. each-more (λ k x. x.node < size_of next) lits c.keep.new.items.items l k long e
          (λ j b. grown h next (lit_at lits j).node c.make.ensures.inputs c.make.ensures.least
          (so.named j (omega arith))) c.in_ok-l.ensures.named j (omega arith);
      values = λ bits. values-more g outs marks c.args.merge h next lits c.keep.new.items.items l k
          bits c.inputs-inputs.ensures.graph c.requires.merge c.in_ok-marks.ensures.plan (omega arith)
          (omega arith) long e
          (λ j b. so.named j (omega arith)) (so.values bits) (c.in_ok-l.ensures.kept bits)
          (new bits);
      count = omega arith;
      marked = λ none full j a b.
          let few : n ≤ k = let s = rw none at so.count in omega (arith, s) in
          let room : c.inputs-inputs.result + 1 + length next.nodes
          ≤ n + cost (part_of g marks c.args.merge k) = omega (arith, count) in
          let most : c.inputs-inputs.result + 1 + length next.nodes
          ≤ n + cost (part_of g marks None k) = rw none at room in
          let last = marked-more g marks k n (c.inputs-inputs.result + 1 + length next.nodes) few
          full most in
          elim (cases_lt j k) [
            | inl l ↦ so.marked none last.0 j a l
            | inr l ↦ let e : k ≡ j = omega arith in subst (λ i. is_marked marks i ≡ true) e last.1
          ];
    }

pub returns-clause-keeps : goal.returns-clause-keeps
returns-clause-keeps c =
    let g = c.args.m.now.mig in
    let outs = c.args.m.now.outs.items in
    let so = c.loop-k.invariant in
    let same = c.inputs-inputs.ensures.inputs in
    let lits = c.loop-k.lits.items in
    let made = c.in_ok-outs.outs.items in
    let each : (j : ℕ) → j < length outs → lit_at made j
    ≡ complement_if (lit_at outs j).inverted (lit_at lits (lit_at outs j).node) =
    rw (c.deref-2.ensures.value, c.deref-3.ensures.value) at c.in_ok-outs.ensures.each in
    record {
      inputs = so.inputs;
      long = rw c.deref-3.ensures.value at c.in_ok-outs.ensures.long;
      values = λ bits j b. let d : (lit_at outs j).node < size_of g = c.requires.named j b in
          output g c.loop-k.mig bits (lit_at made j) (lit_at lits (lit_at outs j).node)
          (lit_at outs j) (each j b) (so.values bits (lit_at outs j).node (omega arith)
          (c.in_ok-marks.ensures.plan.outputs j b));
    }

pub returns-clause-reached : goal.returns-clause-reached
returns-clause-reached c = λ none full k a b set closed.
    let same = c.inputs-inputs.ensures.inputs in
    let done : c.loop-k.k ≡ size_of c.args.m.now.mig =
    omega (arith, c.loop-k-test.false, c.loop-k.auto.k-end) in
    c.in_ok-marks.ensures.only k (c.loop-k.invariant.marked none (omega (arith, full, done, same)) k
    (omega (arith, a, same)) (omega (arith, b, done))) set closed
