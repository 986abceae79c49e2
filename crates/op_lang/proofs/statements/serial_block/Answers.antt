use Rattle.std.proofs.Common.{[], ◌∷◌, ◌∙◌}
use Rattle.op_text.specs.declared.wanted.Wanted.TheVariants as w
use Rattle.op_lang.proofs.Taking.{exits, fails_along}
use Rattle.op_lang.proofs.statements.serial_block.Goals as goal

pub returns-in_err-down-clause-moves : goal.returns-in_err-down-clause-moves
returns-in_err-down-clause-moves c = exits (w.Direction ∷ w.Open ∷ w.States ∷ w.Begin ∷ w.Lets
    ∷ []) _ _ _ (λ x. []) _ c.from_residual.ensures.1
    (λ more. c.in_err-down.ensures.moves (w.Lets ∷ more))

pub returns-in_err-target-clause-moves : goal.returns-in_err-target-clause-moves
returns-in_err-target-clause-moves c = exits (w.Direction ∷ w.Open ∷ w.States ∷ w.Begin ∷ w.Lets
    ∷ []) _ _ _ (λ x. []) _ c.from_residual-in_err-target.ensures.1
    (λ more. fails_along _ (c.in_ok-down.ensures.moves (w.Lets ∷ more))
    (c.in_err-target.ensures.moves (more)))

pub returns-in_err-assigns-clause-moves : goal.returns-in_err-assigns-clause-moves
returns-in_err-assigns-clause-moves c = exits (w.Direction ∷ w.Open ∷ w.States ∷ w.Begin ∷ w.Lets
    ∷ []) _ _ _ (λ x. []) _ c.from_residual-in_err-assigns.ensures.1
    (λ more. fails_along _ (c.in_ok-down.ensures.moves (w.Lets ∷ more)
    ∙ c.in_ok-target.ensures.moves (more)) (c.in_err-assigns.ensures.moves (more)))
