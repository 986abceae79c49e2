use Rattle.std.proofs.Common.{[], ◌∷◌, ◌∙◌}
use Rattle.op_text.specs.declared.wanted.Wanted.TheVariants as w
use Rattle.op_lang.proofs.Taking.{exits, fails_along}
use Rattle.op_lang.proofs.parse.op_after.Goals as goal

pub returns-in_err-name-clause-moves : goal.returns-in_err-name-clause-moves
returns-in_err-name-clause-moves c = exits (w.NewOp ∷ w.Open ∷ w.NewParam ∷ w.Colon ∷ w.ParamKind
    ∷ w.Params ∷ w.Arrow ∷ w.NewResult ∷ w.Colon ∷ w.ResultKind ∷ w.SecondResult ∷ w.FirstStmt
    ∷ []) _ _ _ (λ x. []) _ c.from_residual.ensures.1
    (λ more. c.in_err-name.ensures.moves (w.Open ∷ w.NewParam ∷ w.Colon ∷ w.ParamKind ∷ w.Params
    ∷ w.Arrow ∷ w.NewResult ∷ w.Colon ∷ w.ResultKind ∷ w.SecondResult ∷ w.FirstStmt ∷ more))

pub returns-in_err-params-clause-moves : goal.returns-in_err-params-clause-moves
returns-in_err-params-clause-moves c = exits (w.NewOp ∷ w.Open ∷ w.NewParam ∷ w.Colon ∷ w.ParamKind
    ∷ w.Params ∷ w.Arrow ∷ w.NewResult ∷ w.Colon ∷ w.ResultKind ∷ w.SecondResult ∷ w.FirstStmt
    ∷ []) _ _ _ (λ x. []) _ c.from_residual-in_err-params.ensures.1
    (λ more. fails_along _ (c.in_ok-name.ensures.moves (w.Open ∷ w.NewParam ∷ w.Colon ∷ w.ParamKind
    ∷ w.Params ∷ w.Arrow ∷ w.NewResult ∷ w.Colon ∷ w.ResultKind ∷ w.SecondResult ∷ w.FirstStmt
    ∷ more))
    (c.in_err-params.ensures.moves (w.Arrow ∷ w.NewResult ∷ w.Colon ∷ w.ResultKind ∷ w.SecondResult
    ∷ w.FirstStmt ∷ more)))

pub returns-in_err-result-clause-moves : goal.returns-in_err-result-clause-moves
returns-in_err-result-clause-moves c = exits (w.NewOp ∷ w.Open ∷ w.NewParam ∷ w.Colon ∷ w.ParamKind
    ∷ w.Params ∷ w.Arrow ∷ w.NewResult ∷ w.Colon ∷ w.ResultKind ∷ w.SecondResult ∷ w.FirstStmt
    ∷ []) _ _ _ (λ x. []) _ c.from_residual-in_err-result.ensures.1
    (λ more. fails_along _ (c.in_ok-name.ensures.moves (w.Open ∷ w.NewParam ∷ w.Colon ∷ w.ParamKind
    ∷ w.Params ∷ w.Arrow ∷ w.NewResult ∷ w.Colon ∷ w.ResultKind ∷ w.SecondResult ∷ w.FirstStmt
    ∷ more)
    ∙ c.in_ok-params.ensures.moves (w.Arrow ∷ w.NewResult ∷ w.Colon ∷ w.ResultKind
    ∷ w.SecondResult ∷ w.FirstStmt ∷ more)) (c.in_err-result.ensures.moves (w.SecondResult
    ∷ w.FirstStmt ∷ more)))

pub returns-in_err-second-clause-moves : goal.returns-in_err-second-clause-moves
returns-in_err-second-clause-moves c = exits (w.NewOp ∷ w.Open ∷ w.NewParam ∷ w.Colon ∷ w.ParamKind
    ∷ w.Params ∷ w.Arrow ∷ w.NewResult ∷ w.Colon ∷ w.ResultKind ∷ w.SecondResult ∷ w.FirstStmt
    ∷ []) _ _ _ (λ x. []) _ c.from_residual-in_err-second.ensures.1
    (λ more. fails_along _ (c.in_ok-name.ensures.moves (w.Open ∷ w.NewParam ∷ w.Colon ∷ w.ParamKind
    ∷ w.Params ∷ w.Arrow ∷ w.NewResult ∷ w.Colon ∷ w.ResultKind ∷ w.SecondResult ∷ w.FirstStmt
    ∷ more)
    ∙ c.in_ok-params.ensures.moves (w.Arrow ∷ w.NewResult ∷ w.Colon ∷ w.ResultKind
    ∷ w.SecondResult ∷ w.FirstStmt ∷ more) ∙ c.in_ok-result.ensures.moves (w.SecondResult
    ∷ w.FirstStmt ∷ more)) (c.in_err-second.ensures.moves (w.FirstStmt ∷ more)))

pub returns-in_err-body-clause-moves : goal.returns-in_err-body-clause-moves
returns-in_err-body-clause-moves c = exits (w.NewOp ∷ w.Open ∷ w.NewParam ∷ w.Colon ∷ w.ParamKind
    ∷ w.Params ∷ w.Arrow ∷ w.NewResult ∷ w.Colon ∷ w.ResultKind ∷ w.SecondResult ∷ w.FirstStmt
    ∷ []) _ _ _ (λ x. []) _ c.from_residual-in_err-body.ensures.1
    (λ more. fails_along _ (c.in_ok-name.ensures.moves (w.Open ∷ w.NewParam ∷ w.Colon ∷ w.ParamKind
    ∷ w.Params ∷ w.Arrow ∷ w.NewResult ∷ w.Colon ∷ w.ResultKind ∷ w.SecondResult ∷ w.FirstStmt
    ∷ more)
    ∙ c.in_ok-params.ensures.moves (w.Arrow ∷ w.NewResult ∷ w.Colon ∷ w.ResultKind
    ∷ w.SecondResult ∷ w.FirstStmt ∷ more) ∙ c.in_ok-result.ensures.moves (w.SecondResult
    ∷ w.FirstStmt ∷ more) ∙ c.in_ok-second.ensures.moves (w.FirstStmt ∷ more))
    (c.in_err-body.ensures.moves (more)))
