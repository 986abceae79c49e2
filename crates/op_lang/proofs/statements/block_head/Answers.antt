use Rattle.std.proofs.Common.{[], ◌∷◌, ◌∙◌}
use Rattle.op_text.specs.declared.wanted.Wanted.TheVariants as w
use Rattle.op_lang.proofs.Taking.{exits, fails_along}
use Rattle.op_lang.proofs.statements.block_head.Goals as goal

pub returns-in_err-down-clause-moves : goal.returns-in_err-down-clause-moves
returns-in_err-down-clause-moves c = exits (w.Direction ∷ w.Open ∷ w.States ∷ w.Begin
    ∷ []) _ _ _ (λ x. []) _ c.from_residual.ensures.1
    (λ more. c.in_err-down.ensures.moves (w.Open ∷ w.States ∷ w.Begin ∷ more))

pub returns-in_err-mark-clause-moves : goal.returns-in_err-mark-clause-moves
returns-in_err-mark-clause-moves c = exits (w.Direction ∷ w.Open ∷ w.States ∷ w.Begin
    ∷ []) _ _ _ (λ x. []) _ c.from_residual-in_err-mark.ensures.1
    (λ more. fails_along _ (c.in_ok-down.ensures.moves (w.Open ∷ w.States ∷ w.Begin ∷ more))
    (c.in_err-mark.ensures.moves (w.States ∷ w.Begin ∷ more)))

pub returns-in_err-states-clause-moves : goal.returns-in_err-states-clause-moves
returns-in_err-states-clause-moves c = exits (w.Direction ∷ w.Open ∷ w.States ∷ w.Begin
    ∷ []) _ _ _ (λ x. []) _ c.from_residual-in_err-states.ensures.1
    (λ more. fails_along _ (c.in_ok-down.ensures.moves (w.Open ∷ w.States ∷ w.Begin ∷ more)
    ∙ c.in_ok-mark.ensures.moves (w.States ∷ w.Begin ∷ more))
    (c.in_err-states.ensures.moves (w.Begin ∷ more)))

pub returns-in_err-mark-2-clause-moves : goal.returns-in_err-mark-2-clause-moves
returns-in_err-mark-2-clause-moves c = exits (w.Direction ∷ w.Open ∷ w.States ∷ w.Begin
    ∷ []) _ _ _ (λ x. []) _ c.from_residual-in_err-mark-2.ensures.1
    (λ more. fails_along _ (c.in_ok-down.ensures.moves (w.Open ∷ w.States ∷ w.Begin ∷ more)
    ∙ c.in_ok-mark.ensures.moves (w.States ∷ w.Begin ∷ more)
    ∙ c.in_ok-states.ensures.moves (w.Begin ∷ more)) (c.in_err-mark-2.ensures.moves (more)))
