use Rattle.mig_rewrite.proofs.Common.{◌≡◌, ◌<◌, ℕ, lit_value, lit_at}
use Rattle.mig_rewrite.specs.Plan.{is_marked}
use Rattle.mig_rewrite.proofs.agree.same_outputs.Given as goal

-- the outputs so far are equal
abbrev pub invariant-loop-k : goal.invariant-loop-k
invariant-loop-k l = (j : ℕ) → j < l.k → lit_value (is_marked l.others) (lit_at l.made j)
    ≡ lit_value (is_marked l.values) (lit_at l.outs j)
