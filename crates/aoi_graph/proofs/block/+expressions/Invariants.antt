use Rattle.std.proofs.Common.{◌+◌, ◌*◌}
use Rattle.op_text.specs.Language.{term}
use Rattle.aoi_graph.specs.Blocks.{parts}
use Rattle.aoi_graph.proofs.block.+expressions.Given as goal

abbrev pub decreases-pair : goal.decreases-pair
decreases-pair l = 2 * (parts (term l.a.now) + parts (term l.b.now)) + 1

abbrev pub decreases-expression : goal.decreases-expression
decreases-expression l = 2 * parts (term l.e.now)
