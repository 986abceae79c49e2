use Rattle.std.proofs.Common.{arith, ap, length, refl, ◌∙◌}
use Rattle.aoi_graph.specs.Blocks.{after_lets, input_value}
use Rattle.aoi_graph.proofs.Known.{known-values}
use Rattle.aoi_graph.proofs.block.build.Goals as goal

pub returns-clause-unknown : goal.returns-clause-unknown
returns-clause-unknown c = λ bits env h. c.in_ok-out_nodes.ensures.value bits
    (after_lets env c.args.lets.now) (c.in_ok-let_nodes.ensures.value bits env (λ n. h n
    ∙ rw c.new-known.ensures.empty refl))

pub returns-clause-value : goal.returns-clause-value
returns-clause-value c = λ bits env reads names.
    let start = input_value c.args.inputs.now bits in
    known-values c.args.inputs.now bits env c.args.lets.now c.args.assigns.now
    c.out_nodes.new.nodes.items c.out_nodes.new.outs.items reads names
    (c.in_ok-out_nodes.ensures.value bits (after_lets start c.args.lets.now)
    (c.in_ok-let_nodes.ensures.value bits start (λ n. rw c.new-known.ensures.empty refl)))

pub returns-clause-held : goal.returns-clause-held
returns-clause-held c = c.in_ok-out_nodes.ensures.held
    (c.in_ok-let_nodes.ensures.held (λ k b. absurd
    (omega (arith, ap length c.new-nodes.ensures.items))))
