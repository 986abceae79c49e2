use Rattle.op_lang.proofs.Common.{[], ◌∷◌}
use Rattle.op_lang.specs.Pieces.{after_comma_or_close}
use Rattle.op_lang.proofs.Taking.{exits}
use Rattle.op_lang.proofs.Single.{more_took}
use Rattle.op_lang.proofs.pieces.more.Goals as goal

pub returns-in_err-token-clause-moves : goal.returns-in_err-token-clause-moves
returns-in_err-token-clause-moves c = exits (c.args.wanted
    ∷ []) _ _ _ (after_comma_or_close c.args.wanted) _ c.from_residual.ensures.1
    c.in_err-token.ensures

pub returns-clause-moves : goal.returns-clause-moves
returns-clause-moves c = λ more. rw c.is_comma.ensures
    (more_took _ _ _ _ _ c.requires c.in_ok-token.ensures more)
