use Rattle.block_lower.proofs.Common.{◌≡◌, ◌+◌, ◌-◌, ◌∷◌, [], ap, ◌∙◌, arith, inl, inr, cases_eq}
use Rattle.block_lower.proofs.Common.{node_at}
use Rattle.block_lower.proofs.SameGraphs.{node-same, graph-same}
use Rattle.block_lower.proofs.copied.are_same.Goals as goal

pub loop-k-preserved : goal.loop-k-preserved
loop-k-preserved c j l =
    let m = c.args.m.now in
    let r = c.args.r.now in
    elim (cases_eq (m.inputs + 1 + j) c.loop-k.k) [
      | inl e ↦
          let i = c.if-inputs.false in
          let a = c.inputs.ensures.inputs in
          let b = c.inputs-2.ensures.inputs in
          let x : c.loop-k.k - m.inputs - 1 ≡ j = omega (arith, e) in
          let y : c.loop-k.k - r.inputs - 1 ≡ j = omega (arith, e, i, a, b) in
          node-same (node_at m.nodes j) (node_at r.nodes j) c.node.result c.node-in-loop-k.result
          (c.node.ensures ∙ ap (λ v. let n = node_at m.nodes v in n.a ∷ n.b ∷ n.c ∷ []) x)
          (c.node-in-loop-k.ensures
          ∙ ap (λ v. let n = node_at r.nodes v in n.a ∷ n.b ∷ n.c ∷ []) y)
          c.if-ne.ensures c.if-ne-2.ensures c.if-ne-3.ensures
      | inr ne ↦ c.loop-k.invariant j (omega (arith, l, ne))
    ]

pub returns-clause-same : goal.returns-clause-same
returns-clause-same c t =
    let i = c.if-inputs.false in
    let a = c.inputs.ensures.inputs in
    let b = c.inputs-2.ensures.inputs in
    let s = c.if-size.false in
    let x = c.size.ensures in
    let y = c.size-else-inputs.ensures in
    let past = c.loop-k-test.false in
    let end = c.size-k-end.ensures in
    graph-same c.args.m.now c.args.r.now (omega (arith, i, a, b)) (omega (arith, i, a, b, s, x, y))
    (λ j l. c.loop-k.invariant j (omega (arith, l, past, end)))
