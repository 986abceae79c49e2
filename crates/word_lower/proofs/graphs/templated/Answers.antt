use Rattle.word_lower.proofs.Common.{arith}
use Rattle.word_lower.proofs.LikeTemplates.{all_below, template_same, template_made}
use Rattle.word_lower.proofs.Own.{own_graph, own_sorted}
use Rattle.word_lower.proofs.graphs.templated.Goals as goal

pub made-requires-clause-graph : goal.made-requires-clause-graph
made-requires-clause-graph c = own_graph _ c.args.nodes.now
    (omega (arith, c.requires.reads, c.requires.nodes)) c.requires.own

pub made-requires-clause-sorted : goal.made-requires-clause-sorted
made-requires-clause-sorted c = own_sorted _ c.args.nodes.now c.requires.own

pub returns-clause-same : goal.returns-clause-same
returns-clause-same c = template_same c.args.reads.now c.args.writes.now _ _ c.args.nodes.now
    c.args.outs.now _ _ _ c.args.cmds.now (c.in_ok-to_vec.ensures.items_if_clones_equal (λ x y e. e))
    (c.in_ok-to_vec-2.ensures.items_if_clones_equal (λ x y e. e))
    c.in_ok-made.ensures.graph c.in_ok-made.ensures.outs
    (c.in_ok-to_vec-3.ensures.items_if_clones_equal (λ x y e. e))

pub returns-clause-made : goal.returns-clause-made
returns-clause-made c = template_made _ _ _ c.args.nodes.now c.args.outs.now _ _ _
    (own_graph _ c.args.nodes.now (omega (arith, c.requires.reads, c.requires.nodes))
    c.requires.own)
    (all_below _ c.args.outs.now c.requires.named) c.in_ok-made.ensures.graph
    c.in_ok-made.ensures.outs
