use Rattle.mig_rewrite.proofs.agree.+agree.Given as goal

abbrev pub decreases-agree : goal.decreases-agree
decreases-agree l = l.free
