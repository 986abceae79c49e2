use Rattle.mig_rewrite.proofs.Common.{subst, [], ◌∷◌, ◌++◌}
use Rattle.mig_rewrite.specs.Counts.{AreCounts}
use Rattle.mig_rewrite.proofs.Counting.{three-more}
use Rattle.mig_rewrite.proofs.tally.count_three.Goals as goal

pub returns : goal.returns
returns c = λ lits h. let n = c.args.n in
    subst (AreCounts c.count-3.new.counts) (three-more lits n.a n.b n.c)
    (c.count-3.ensures ((lits ++ n.a ∷ []) ++ n.b
    ∷ []) (c.count-2.ensures (lits ++ n.a ∷ []) (c.count.ensures lits h)))
