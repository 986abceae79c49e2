use Rattle.std.proofs.Common.{[], ◌∷◌}
use Rattle.op_text.specs.declared.wanted.Wanted.TheVariants as w
use Rattle.op_lang.proofs.Taking.{exits, continues}
use Rattle.op_lang.proofs.parse.inputs.Goals as goal

pub returns-in_err-mark-clause-moves : goal.returns-in_err-mark-clause-moves
returns-in_err-mark-clause-moves c = exits (w.Open ∷ w.NewParam ∷ w.Colon ∷ w.ParamKind ∷ w.Params
    ∷ []) _ _ _ (λ x. []) _ c.from_residual.ensures.1
    (λ more. c.in_err-mark.ensures.moves (w.NewParam ∷ w.Colon ∷ w.ParamKind ∷ w.Params ∷ more))

pub returns-clause-moves : goal.returns-clause-moves
returns-clause-moves c =
    continues (w.Open ∷ w.NewParam ∷ w.Colon ∷ w.ParamKind ∷ w.Params ∷ [])
    (w.NewParam ∷ w.Colon ∷ w.ParamKind ∷ w.Params ∷ []) [] _ _ _ _
    (λ more. c.in_ok-mark.ensures.moves (w.NewParam ∷ w.Colon ∷ w.ParamKind ∷ w.Params ∷ more))
    c.sources.ensures.moves
