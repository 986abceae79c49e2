use Rattle.mig_rewrite.proofs.Counting.{none-common}
use Rattle.mig_rewrite.proofs.merges.common.Goals as goal

pub returns-clause-none : goal.returns-clause-none
returns-clause-none c = none-common c.args.p c.args.q c.requires c.in_default.ensures.none
    c.in_default-third.ensures.none c.in_default-third-2.ensures.none
