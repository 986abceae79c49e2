use Rattle.std.proofs.Common.{[], ◌∷◌}
use Rattle.op_text.specs.declared.wanted.Wanted.TheVariants as w
use Rattle.op_lang.proofs.Taking.{exits, continues}
use Rattle.op_lang.proofs.parse.one_op.Goals as goal

pub returns-in_err-op_word-clause-moves : goal.returns-in_err-op_word-clause-moves
returns-in_err-op_word-clause-moves c = exits (w.Ops ∷ []) _ _ _ (λ o. w.Ops
    ∷ []) _ c.from_residual.ensures.1 (λ more. c.in_err-op_word.ensures.moves (more))

pub returns-clause-moves : goal.returns-clause-moves
returns-clause-moves c =
    continues (w.Ops ∷ []) (w.NewOp ∷ w.Open ∷ w.NewParam ∷ w.Colon ∷ w.ParamKind ∷ w.Params
    ∷ w.Arrow ∷ w.NewResult ∷ w.Colon ∷ w.ResultKind ∷ w.SecondResult ∷ w.FirstStmt ∷ []) (w.Ops
    ∷ []) c.args.parser.now c.op_word.new.parser c.op_after.result c.op_after.new.parser
    (λ more. c.in_ok-op_word.ensures.moves more) c.op_after.ensures.moves
