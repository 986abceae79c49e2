use Rattle.row_alloc.proofs.Common.{◌≡◌, ◌<◌, ℕ, length, arith, subst, common_steps}
use Rattle.row_alloc.specs.Phases.{Prepares}
use Rattle.row_alloc.proofs.Sequence.{prepares-node}
use Rattle.row_alloc.proofs.plain.node_part.Goals as goal

pub loop-k-preserved : goal.loop-k-preserved
loop-k-preserved c =
    let l : c.loop-k.k < length c.args.m.now.nodes = omega arith in
    let small : c.loop-k.k < 32 = omega arith in
    let same : c.from.result ≡ c.loop-k.k = c.from.ensures in
    let order = rw same at c.arranged-n.ensures.order in
    let lower = rw same at c.arranged-n.ensures.lower in record {
      prepares = λ outs. rw (c.in_ok-push_node.ensures, c.inputs.ensures.inputs)
          (prepares-node c.args.m.now outs c.loop-k.k c.loop-k.cmds.items c.arranged-n.result
          (c.loop-k.invariant.prepares outs) c.inputs.ensures.graph l small order lower
          c.arranged-n.ensures.b c.arranged-n.ensures.c);
      count = rw c.in_ok-push_node.ensures (grind (arith, common_steps, c.loop-k.invariant.count));
    }

pub returns-clause-prepares : goal.returns-clause-prepares
returns-clause-prepares c = λ outs. let e : c.loop-k.k ≡ length c.args.m.now.nodes = omega arith in
    let P : ℕ → Type 0 = λ n. Prepares c.args.m.now outs n 0 c.loop-k.cmds.items in
    subst P e (c.loop-k.invariant.prepares outs)
