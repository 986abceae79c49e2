use Rattle.mig_rewrite.proofs.Common.{◌≡◌, ℕ, ◌+◌, ◌-◌, ◌<◌, length, List, subst, sym, arith, inl}
use Rattle.mig_rewrite.proofs.Common.{inr, cases_lt, Lit, Graph, IsGraph, size_of, node_at}
use Rattle.mig_rewrite.proofs.Common.{node_numbered}
use Rattle.mig_graph.specs.Reduced.{IsReduced}
use Rattle.mig_graph.proofs.ReducedLaws.{reduced-but-pairs}
use Rattle.mig_rewrite.specs.Merge.{NoMerge}
use Rattle.mig_rewrite.proofs.merges.any_merge.Goals as goal

pub loop-k-preserved : goal.loop-k-preserved
loop-k-preserved c = λ j a b. elim (cases_lt j c.loop-k.k) [
  | inl l ↦ c.loop-k.invariant j a l
  | inr l ↦ let e : j ≡ c.loop-k.k = omega arith in
      subst (λ i. NoMerge c.args.m.now.mig c.args.m.now.outs.items
      (node_numbered c.args.m.now.mig i)) (sym e) c.in_default.ensures.none
]

-- a graph without a merge is reduced
none-reduced : (g : Graph) (outs : List Lit) → IsGraph g.inputs g.nodes
    → ((j : ℕ) → g.inputs < j → j < size_of g → NoMerge g outs (node_numbered g j))
    → IsReduced g outs
none-reduced g outs graph h =
    let at : (k : ℕ) → k < length g.nodes → NoMerge g outs (node_at g.nodes k) = λ k b.
    let e : g.inputs + 1 + k - g.inputs - 1 ≡ k = omega arith in
    subst (λ i. NoMerge g outs (node_at g.nodes i)) e
    (h (g.inputs + 1 + k) (omega arith) (omega arith)) in
    reduced-but-pairs g outs graph (λ k b. (at k b).0) (λ k b. (at k b).1) (λ k b. (at k b).2)

pub returns-clause-none : goal.returns-clause-none
returns-clause-none c = λ _. none-reduced c.args.m.now.mig c.args.m.now.outs.items
    c.inputs.ensures.graph (λ j a b. c.loop-k.invariant j a (omega arith))
