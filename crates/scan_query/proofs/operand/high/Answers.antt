use Rattle.scan_query.proofs.Common.{[], ◌∷◌}
use Rattle.scan_model.specs.Texts as model
use Rattle.scan_query.specs.Reading.{seen, word_view}
use Rattle.scan_query.proofs.Taking.{breaks, exits, token_goes}
use Rattle.scan_query.proofs.operand.high.Goals as goal

pub returns-in_err-token-clause-moves : goal.returns-in_err-token-clause-moves
returns-in_err-token-clause-moves c = exits (model.High c.args.low ∷ []) _ _ _ (λ k. model.AtHigh ∷ []) _
    c.from_residual.ensures.1 (c.in_err-token.ensures.takes (model.High c.args.low))

pub returns-in-Ok-clause-moves : goal.returns-in-Ok-clause-moves
returns-in-Ok-clause-moves c = token_goes (word_view c.in_ok-token.token.word)
    (seen c.args.parser.now) (seen c.next.new.parser) c.in_ok-token.token.at
    (model.High c.args.low) (model.AtHigh ∷ []) c.in_ok-token.ensures.takes
    (c.in-Ok.ensures.step _)

pub returns-in-Err-clause-moves : goal.returns-in-Err-clause-moves
returns-in-Err-clause-moves c = breaks (seen c.args.parser.now) (seen c.next.new.parser)
    (word_view c.in_ok-token.token.word) c.in_ok-token.token.at (model.High c.args.low)
    c.in-Err.kind c.in_ok-token.ensures.takes (c.in-Err.ensures.breaks _)
