use Rattle.mig_rewrite.proofs.Counting.{counts-more}
use Rattle.mig_rewrite.proofs.tally.count.Goals as goal

pub returns : goal.returns
returns c = λ lits h. counts-more c.args.counts.now lits c.args.l c.one_more.result c.requires
    c.one_more.ensures h
