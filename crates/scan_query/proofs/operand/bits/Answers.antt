use Rattle.scan_query.proofs.Common.{[], ◌∷◌, ◌∙◌, ap}
use Rattle.scan_model.specs.Texts as model
use Rattle.scan_query.proofs.Taking.{exits, fails_along}
use Rattle.scan_query.proofs.Spelling.{part_along}
use Rattle.scan_query.proofs.operand.bits.Goals as goal

pub returns-in_err-low-clause-moves : goal.returns-in_err-low-clause-moves
returns-in_err-low-clause-moves c = exits (model.Low ∷ []) _ _ _ (λ x. model.Bound ∷ []) _
    c.from_residual.ensures.1 (λ more. c.in_err-low.ensures.moves more)

pub returns-in_err-size-clause-moves : goal.returns-in_err-size-clause-moves
returns-in_err-size-clause-moves c = exits (model.Low ∷ []) _ _ _ (λ x. model.Bound ∷ []) _
    c.from_residual-in_err-size.ensures.1 (λ more. fails_along _ (c.in_ok-low.ensures.moves more)
    (c.in_err-size.ensures.moves more))

pub returns-in_err-symbol-clause-moves : goal.returns-in_err-symbol-clause-moves
returns-in_err-symbol-clause-moves c = exits (model.Low ∷ []) _ _ _ (λ x. model.Bound ∷ []) _
    c.from_residual-in_err-symbol.ensures.1 (λ more. fails_along _
    (c.in_ok-low.ensures.moves more ∙ c.in_ok-size.ensures.moves more)
    (c.in_err-symbol.ensures.moves more))

pub returns-clause-spells : goal.returns-clause-spells
returns-clause-spells c = part_along _ _ _ _ _
    (ap (λ ws. model.OpensBits ∷ ws) c.in_ok-low.ensures.spells) c.in_ok-symbol.ensures.spells
    c.in_ok-size.ensures.spells
