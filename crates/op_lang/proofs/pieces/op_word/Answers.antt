use Rattle.op_lang.proofs.Common.{[], ◌∷◌}
use Rattle.op_text.specs.declared.wanted.Wanted.TheVariants as w
use Rattle.op_lang.proofs.Taking.{exits}
use Rattle.op_lang.proofs.Single.{op_took}
use Rattle.op_lang.proofs.pieces.op_word.Goals as goal

pub returns-in_err-take-clause-moves : goal.returns-in_err-take-clause-moves
returns-in_err-take-clause-moves c = exits (w.Ops ∷ []) _ _ _ (λ x. w.NewOp ∷ w.Open ∷ w.NewParam
    ∷ w.Colon ∷ w.ParamKind ∷ w.Params ∷ w.Arrow ∷ w.NewResult ∷ w.Colon ∷ w.ResultKind
    ∷ w.SecondResult
    ∷ w.FirstStmt ∷ w.Ops ∷ []) _ c.from_residual.ensures.1 c.in_err-take.ensures

pub returns-clause-moves : goal.returns-clause-moves
returns-clause-moves c = λ more. op_took _ _ _ _ c.in_ok-take.ensures more
