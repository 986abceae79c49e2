use Rattle.std.proofs.lemmas.Result.{IfOk-weaker}
use Rattle.aoi_graph.proofs.Growing.{value-new, held-more}
use Rattle.aoi_graph.proofs.gates.gate.Goals as goal

pub returns-clause-value : goal.returns-clause-value
returns-clause-value c = IfOk-weaker c.push.result _ _
    (λ r e bits. value-new bits c.args.nodes.now.items c.push.new.nodes.items c.args.node r e.0 e.1
    c.requires.lower c.requires.below) c.push.ensures

pub returns-clause-held : goal.returns-clause-held
returns-clause-held c = IfOk-weaker c.push.result _ _ (λ r e inputs f h.
    held-more inputs c.args.nodes.now.items c.push.new.nodes.items c.args.node e.0 f h)
    c.push.ensures
