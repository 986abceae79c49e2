use Rattle.scan_query.proofs.Common.{[], ◌∷◌, sym, ◌∙◌, ap, option_map}
use Rattle.scan_model.specs.Texts as model
use Rattle.scan_query.specs.Reading.{after_lead, lead_of, seen}
use Rattle.scan_query.proofs.Taking.{exits, start_full, start_goes, start_wrong}
use Rattle.scan_query.proofs.reading.begins.Goals as goal

pub returns-in_err-token-clause-moves : goal.returns-in_err-token-clause-moves
returns-in_err-token-clause-moves c = exits (model.Start ∷ []) _ _ _ after_lead _
    c.from_residual.ensures.1 (c.in_err-token.ensures.takes model.Start)

pub returns-in_default-clause-moves : goal.returns-in_default-clause-moves
returns-in_default-clause-moves c = start_wrong c.in_ok-token.token.word
    (seen c.args.parser.now) (seen c.next.new.parser) c.in_ok-token.token.at
    c.in_ok-token.ensures.takes (sym c.lead_at.ensures ∙ ap (option_map lead_of) c.in_default.is)

pub returns-then-begin-clause-moves : goal.returns-then-begin-clause-moves
returns-then-begin-clause-moves c = start_goes c.in_ok-token.token.word
    (seen c.args.parser.now) (seen c.next.new.parser) (seen c.begin.new.parser)
    c.in_ok-token.token.at (lead_of c.in-Some.lead)
    c.in_ok-token.ensures.takes (sym c.lead_at.ensures ∙ ap (option_map lead_of) c.in-Some.is)
    (sym c.begin.ensures.fits ∙ c.if-begin.true) (c.begin.ensures.begun c.if-begin.true)
    c.begin.ensures.items

pub returns-else-begin-clause-moves : goal.returns-else-begin-clause-moves
returns-else-begin-clause-moves c = start_full c.in_ok-token.token.word
    (seen c.args.parser.now) (seen c.next.new.parser)
    c.in_ok-token.token.at (lead_of c.in-Some.lead)
    c.in_ok-token.ensures.takes (sym c.lead_at.ensures ∙ ap (option_map lead_of) c.in-Some.is)
    (sym c.begin.ensures.fits ∙ c.if-begin.false)
