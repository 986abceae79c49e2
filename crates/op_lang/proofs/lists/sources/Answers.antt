use Rattle.std.proofs.Common.{[], ◌∷◌}
use Rattle.op_text.specs.declared.wanted.Wanted.TheVariants as w
use Rattle.op_lang.proofs.Taking.{exits, continues}
use Rattle.op_lang.proofs.lists.sources.Goals as goal

pub returns-in_err-first-clause-moves : goal.returns-in_err-first-clause-moves
returns-in_err-first-clause-moves c = exits (w.NewParam ∷ w.Colon ∷ w.ParamKind ∷ w.Params
    ∷ []) _ _ _ (λ x. []) _ c.from_residual.ensures.1
    (λ more. c.in_err-first.ensures.moves (w.Params ∷ more))

pub returns-clause-moves : goal.returns-clause-moves
returns-clause-moves c =
    continues (w.NewParam ∷ w.Colon ∷ w.ParamKind ∷ w.Params ∷ []) (w.Params ∷ []) [] _ _ _ _
    (λ more. c.in_ok-first.ensures.moves (w.Params ∷ more)) c.sources_after.ensures.moves
