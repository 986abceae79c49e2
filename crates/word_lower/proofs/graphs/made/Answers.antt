use Rattle.word_lower.proofs.Own.{grown}
use Rattle.word_lower.proofs.graphs.made.Goals as goal

pub loop-node-preserved : goal.loop-node-preserved
loop-node-preserved c = record {
  graph = grown c.args.inputs c.args.nodes.now c.loop-node.node-index c.loop-node.mig
      c.maj.new.self c.requires.graph c.requires.sorted c.loop-node-test.true
      c.loop-node.invariant.graph c.maj.ensures.inputs (λ f l. (c.in_ok-maj.ensures.fresh f l).1);
}
