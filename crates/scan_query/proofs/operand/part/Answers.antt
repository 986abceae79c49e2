use Rattle.scan_query.proofs.Common.{[], ◌∷◌, ◌∙◌, ap, cond, refl}
use Rattle.scan_model.specs.Texts as model
use Rattle.scan_query.specs.Reading.{breach, left, seen}
use Rattle.scan_query.proofs.Taking.{exits, fails_along}
use Rattle.scan_query.proofs.Spelling.{part_along, whole_part}
use Rattle.scan_query.proofs.operand.part.Goals as goal

pub returns-in_err-opens-clause-moves : goal.returns-in_err-opens-clause-moves
returns-in_err-opens-clause-moves c = exits (model.AtName ∷ []) _ _ _ (λ x. model.Bound ∷ []) _
    c.from_residual.ensures.1 (λ more. c.in_err-opens.ensures.moves more)

pub returns-in_err-part-clause-moves : goal.returns-in_err-part-clause-moves
returns-in_err-part-clause-moves c = exits (model.AtName ∷ []) _ _ _ (λ x. model.Bound ∷ []) _
    c.from_residual-in_err-part.ensures.1 (λ more. fails_along _
    (c.in_ok-opens.ensures.moves more ∙ ap (λ b. breach (cond b model.Low model.Bound ∷ more)
    (seen c.opens_bits.new.parser)) c.if-opens.true) (c.in_err-part.ensures.moves more))

pub returns-in_ok-part-clause-spells : goal.returns-in_ok-part-clause-spells
returns-in_ok-part-clause-spells c = part_along _ _ _ _ _
    (c.in_ok-opens.ensures.spells ∙ ap (λ b. cond b model.OpensBits model.Comma
    ∷ left (seen c.opens_bits.new.parser)) c.if-opens.true) refl c.in_ok-part.ensures.spells

pub returns-else-opens-clause-spells : goal.returns-else-opens-clause-spells
returns-else-opens-clause-spells c = part_along _ _ _ _ _
    (c.in_ok-opens.ensures.spells ∙ ap (λ b. cond b model.OpensBits model.Comma
    ∷ left (seen c.opens_bits.new.parser)) c.if-opens.false) refl
    (whole_part (left (seen c.opens_bits.new.parser)))
