use Rattle.scan_query.proofs.Common.{[], ◌∷◌, sym}
use Rattle.scan_model.specs.declared.QueryKind.TheVariants as kind
use Rattle.scan_query.specs.Reading.{after_mark, seen, wanted_by, word_view}
use Rattle.scan_query.proofs.Taking.{breaks, exits, mark_right, mark_wrong, token_goes}
use Rattle.scan_query.proofs.reading.symbol.Goals as goal

pub returns-in_err-token-clause-moves : goal.returns-in_err-token-clause-moves
returns-in_err-token-clause-moves c = exits (wanted_by c.args.mark ∷ []) _ _ _
    (λ x. after_mark c.args.mark) _
    c.from_residual.ensures.1 (c.in_err-token.ensures.takes (wanted_by c.args.mark))

pub returns-then-is_it-clause-moves : goal.returns-then-is_it-clause-moves
returns-then-is_it-clause-moves c = token_goes (word_view c.in_ok-token.token.word)
    (seen c.args.parser.now) (seen c.next.new.parser) c.in_ok-token.token.at
    (wanted_by c.args.mark) (after_mark c.args.mark) c.in_ok-token.ensures.takes
    (mark_right c.args.mark c.in_ok-token.token.word _ (sym c.if-is_it.ensures))

pub returns-else-is_it-clause-moves : goal.returns-else-is_it-clause-moves
returns-else-is_it-clause-moves c = breaks (seen c.args.parser.now) (seen c.next.new.parser)
    (word_view c.in_ok-token.token.word) c.in_ok-token.token.at (wanted_by c.args.mark)
    kind.Syntax c.in_ok-token.ensures.takes
    (mark_wrong c.args.mark c.in_ok-token.token.word _ (sym c.if-is_it.ensures))
