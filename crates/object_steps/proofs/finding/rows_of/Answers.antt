use Rattle.object_steps.proofs.Found.{named_low}
use Rattle.object_steps.proofs.finding.rows_of.Goals as goal

pub cut-requires : goal.cut-requires
cut-requires c = rw c.object_named.ensures (named_low c.args.table.now.limit
    c.args.table.now.pairs c.args.place.now.name c.len.ensures.low c.len.ensures.kept)
