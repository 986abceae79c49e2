use Rattle.std.proofs.Common.{[], ◌∷◌, ◌∙◌}
use Rattle.op_text.specs.declared.wanted.Wanted.TheVariants as w
use Rattle.op_lang.proofs.Taking.{exits, fails_along}
use Rattle.op_lang.proofs.parse.second_outcome.Goals as goal

pub returns-in_err-second-clause-moves : goal.returns-in_err-second-clause-moves
returns-in_err-second-clause-moves c = exits (w.SecondResult ∷ []) _ _ _ (λ x.
    []) _ c.from_residual.ensures.1 (λ more. c.in_err-second.ensures.moves (more))

pub returns-in_err-result-clause-moves : goal.returns-in_err-result-clause-moves
returns-in_err-result-clause-moves c = exits (w.SecondResult ∷ []) _ _ _ (λ x.
    []) _ c.from_residual-in_err-result.ensures.1
    (λ more. fails_along _ (let m = rw c.if-branch.true at (c.in_ok-second.ensures.moves more) in m)
    (c.in_err-result.ensures.moves (w.Begin ∷ more)))

pub returns-in_err-mark-clause-moves : goal.returns-in_err-mark-clause-moves
returns-in_err-mark-clause-moves c = exits (w.SecondResult ∷ []) _ _ _ (λ x.
    []) _ c.from_residual-in_err-mark.ensures.1
    (λ more. fails_along _
    ((let m = rw c.if-branch.true at (c.in_ok-second.ensures.moves more) in m)
    ∙ c.in_ok-result.ensures.moves (w.Begin ∷ more)) (c.in_err-mark.ensures.moves more))
