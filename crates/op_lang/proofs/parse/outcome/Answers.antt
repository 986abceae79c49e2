use Rattle.std.proofs.Common.{[], ◌∷◌}
use Rattle.op_text.specs.declared.wanted.Wanted.TheVariants as w
use Rattle.op_lang.proofs.Taking.{exits, continues}
use Rattle.op_lang.proofs.parse.outcome.Goals as goal

pub returns-in_err-mark-clause-moves : goal.returns-in_err-mark-clause-moves
returns-in_err-mark-clause-moves c = exits (w.Arrow ∷ w.NewResult ∷ w.Colon ∷ w.ResultKind
    ∷ []) _ _ _ (λ x. []) _ c.from_residual.ensures.1
    (λ more. c.in_err-mark.ensures.moves (w.NewResult ∷ w.Colon ∷ w.ResultKind ∷ more))

pub returns-clause-moves : goal.returns-clause-moves
returns-clause-moves c =
    continues (w.Arrow ∷ w.NewResult ∷ w.Colon ∷ w.ResultKind ∷ [])
    (w.NewResult ∷ w.Colon ∷ w.ResultKind ∷ []) [] _ _ _ _
    (λ more. c.in_ok-mark.ensures.moves (w.NewResult ∷ w.Colon ∷ w.ResultKind ∷ more))
    c.param.ensures.moves
