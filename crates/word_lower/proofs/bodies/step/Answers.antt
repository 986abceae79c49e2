use Rattle.word_lower.proofs.Common.{ap, ◌∷◌, [], Single, Along}
use Rattle.word_lower.proofs.bodies.step.Goals as goal

pub returns-in_ok-body-in-Once-clause-same : goal.returns-in_ok-body-in-Once-clause-same
returns-in_ok-body-in-Once-clause-same c = rw c.in-Once.is
    (ap (λ b. Single b ∷ []) c.in_ok-body-in-Once.ensures.same)

pub returns-in_ok-body-in-Each-clause-same : goal.returns-in_ok-body-in-Each-clause-same
returns-in_ok-body-in-Each-clause-same c = rw c.in-Each.is
    (ap (λ b. Along b ∷ []) c.in_ok-body-in-Each.ensures.same)
