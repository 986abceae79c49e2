use Rattle.op_lang.proofs.Common.{[], ◌∷◌}
use Rattle.op_lang.proofs.Taking.{exits}
use Rattle.op_lang.proofs.Single.{name_took, name_follows, no_none}
use Rattle.op_lang.proofs.pieces.name.Goals as goal

pub returns-in_err-token-clause-moves : goal.returns-in_err-token-clause-moves
returns-in_err-token-clause-moves c = exits (c.args.wanted ∷ []) _ _ _ (λ x.
    []) _ c.from_residual.ensures.1 c.in_err-token.ensures

pub unreachable-requires : goal.unreachable-requires
unreachable-requires c =
    let k = c.in_ok-token.ensures in
    no_none _ _ (name_follows c.args.wanted _ _ _ _ _ c.requires k.allowed k.rules).1
    c.in-None.ensures

pub returns-clause-moves : goal.returns-clause-moves
returns-clause-moves c = λ more. name_took _ _ _ _ _ c.requires c.in_ok-token.ensures more
