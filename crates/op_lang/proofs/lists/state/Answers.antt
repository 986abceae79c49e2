use Rattle.std.proofs.Common.{[], ◌∷◌}
use Rattle.op_text.specs.declared.wanted.Wanted.TheVariants as w
use Rattle.op_lang.proofs.Taking.{exits, fails_along}
use Rattle.op_lang.proofs.lists.state.Goals as goal

pub returns-in_err-mark-clause-moves : goal.returns-in_err-mark-clause-moves
returns-in_err-mark-clause-moves c = exits (w.Equals ∷ w.Start ∷ []) _ _ _ (λ x.
    []) _ c.from_residual.ensures.1 (λ more. c.in_err-mark.ensures.moves (w.Start ∷ more))

pub returns-in_err-start-clause-moves : goal.returns-in_err-start-clause-moves
returns-in_err-start-clause-moves c = exits (w.Equals ∷ w.Start ∷ []) _ _ _ (λ x.
    []) _ c.from_residual-in_err-start.ensures.1
    (λ more. fails_along _ (c.in_ok-mark.ensures.moves (w.Start ∷ more))
    (c.in_err-start.ensures.moves (more)))
