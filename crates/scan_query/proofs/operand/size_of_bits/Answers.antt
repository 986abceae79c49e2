use Rattle.scan_query.proofs.Common.{[], ◌∷◌, ◌∙◌, ap, cond}
use Rattle.scan_model.specs.Texts as model
use Rattle.scan_query.specs.Reading.{breach, left, seen}
use Rattle.scan_query.proofs.Taking.{exits, fails_along}
use Rattle.scan_query.proofs.Spelling.{more_bits, one_bit}
use Rattle.scan_query.proofs.operand.size_of_bits.Goals as goal

pub returns-in_err-is_one-clause-moves : goal.returns-in_err-is_one-clause-moves
returns-in_err-is_one-clause-moves c = exits (model.AtLow c.args.low ∷ []) _ _ _
    (λ x. model.AtBits ∷ []) _ c.from_residual.ensures.1
    (λ more. c.in_err-is_one.ensures.moves c.args.low more)

pub returns-then-is_one-clause-spells : goal.returns-then-is_one-clause-spells
returns-then-is_one-clause-spells c = one_bit c.args.low (left (seen c.args.parser.now))
    (left (seen c.closes_bits.new.parser))
    (c.in_ok-is_one.ensures.spells ∙ ap (λ b. cond b model.ClosesBits model.Colon
    ∷ left (seen c.closes_bits.new.parser)) c.if-is_one.true)

pub returns-in_err-high-clause-moves : goal.returns-in_err-high-clause-moves
returns-in_err-high-clause-moves c = exits (model.AtLow c.args.low ∷ []) _ _ _
    (λ x. model.AtBits ∷ []) _ c.from_residual-in_err-high.ensures.1
    (λ more. fails_along _ (c.in_ok-is_one.ensures.moves c.args.low more
    ∙ ap (λ b. breach (cond b model.AtBits (model.High c.args.low) ∷ more)
    (seen c.closes_bits.new.parser)) c.if-is_one.false) (c.in_err-high.ensures.moves more))

pub returns-in_err-symbol-clause-moves : goal.returns-in_err-symbol-clause-moves
returns-in_err-symbol-clause-moves c = exits (model.AtLow c.args.low ∷ []) _ _ _
    (λ x. model.AtBits ∷ []) _ c.from_residual-in_err-symbol.ensures.1
    (λ more. fails_along _ (c.in_ok-is_one.ensures.moves c.args.low more
    ∙ ap (λ b. breach (cond b model.AtBits (model.High c.args.low) ∷ more)
    (seen c.closes_bits.new.parser)) c.if-is_one.false ∙ c.in_ok-high.ensures.moves more)
    (c.in_err-symbol.ensures.moves more))

pub returns-clause-spells : goal.returns-clause-spells
returns-clause-spells c = more_bits c.args.low c.in_ok-high.high (left (seen c.args.parser.now))
    (left (seen c.closes_bits.new.parser)) (left (seen c.high.new.parser))
    (left (seen c.symbol.new.parser))
    (c.in_ok-is_one.ensures.spells ∙ ap (λ b. cond b model.ClosesBits model.Colon
    ∷ left (seen c.closes_bits.new.parser)) c.if-is_one.false)
    c.in_ok-high.ensures.spells c.in_ok-symbol.ensures.spells
