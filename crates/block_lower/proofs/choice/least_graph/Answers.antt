use Rattle.block_lower.proofs.Common.{map}
use Rattle.block_lower.specs.Choice.{sketch_of}
use Rattle.block_lower.proofs.Counting.{all-right}
use Rattle.block_lower.proofs.choice.least_graph.Goals as goal

pub chosen-requires-clause-others : goal.chosen-requires-clause-others
chosen-requires-clause-others c =
    all-right c.args.reads.now c.args.writes.now c.args.graph.mig c.args.graph.outs.items
    (map sketch_of c.deref.result.now) c.in_ok-others.others.items c.in_ok-others.ensures
