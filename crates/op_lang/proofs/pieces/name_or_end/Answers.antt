use Rattle.op_lang.proofs.Common.{[], ◌∷◌, sym}
use Rattle.op_lang.specs.Pieces.{after_name_or_end}
use Rattle.op_lang.proofs.Taking.{exits}
use Rattle.op_lang.proofs.Single.{end_took, listed_follows, listed_took, no_none}
use Rattle.op_lang.proofs.pieces.name_or_end.Goals as goal

pub returns-in_err-token-clause-moves : goal.returns-in_err-token-clause-moves
returns-in_err-token-clause-moves c = exits (c.args.wanted
    ∷ []) _ _ _ (after_name_or_end c.args.wanted) _ c.from_residual.ensures.1
    c.in_err-token.ensures

pub returns-then-not-is_named-clause-moves : goal.returns-then-not-is_named-clause-moves
returns-then-not-is_named-clause-moves c = λ more. end_took _ _ _ _ _ c.requires
    (sym c.if-not-is_named.ensures) c.in_ok-token.ensures more

pub returns-clause-moves : goal.returns-clause-moves
returns-clause-moves c = λ more. listed_took _ _ _ _ _ c.requires (sym c.if-not-is_named.ensures)
    c.in_ok-token.ensures more

pub unreachable-requires : goal.unreachable-requires
unreachable-requires c = no_none _ _ (listed_follows c.args.wanted _ _ _ _ _ c.requires
    (sym c.if-not-is_named.ensures) c.in_ok-token.ensures.rules).1 c.in-None.ensures
