use Rattle.scan_query.proofs.Common.{[], ◌∷◌}
use Rattle.scan_model.specs.Texts as model
use Rattle.scan_query.proofs.Taking.{exits, fails_along}
use Rattle.scan_query.proofs.Spelling.{place_spelled}
use Rattle.scan_query.proofs.operand.operand.Goals as goal

pub returns-in_err-name-clause-moves : goal.returns-in_err-name-clause-moves
returns-in_err-name-clause-moves c = exits (model.Object ∷ []) _ _ _ (λ x. model.Bound ∷ []) _
    c.from_residual.ensures.1 (λ more. c.in_err-name.ensures.moves more)

pub returns-in_err-part-clause-moves : goal.returns-in_err-part-clause-moves
returns-in_err-part-clause-moves c = exits (model.Object ∷ []) _ _ _ (λ x. model.Bound ∷ []) _
    c.from_residual-in_err-part.ensures.1 (λ more. fails_along _
    (c.in_ok-name.ensures.moves more) (c.in_err-part.ensures.moves more))

pub returns-clause-spells : goal.returns-clause-spells
returns-clause-spells c = place_spelled _ _ _ _ _ c.in_ok-name.ensures.spells
    c.in_ok-part.ensures.spells
