use Rattle.std.proofs.Common.{[], ◌∷◌}
use Rattle.op_text.specs.declared.wanted.Wanted.TheVariants as w
use Rattle.op_lang.proofs.Taking.{exits, fails_along}
use Rattle.op_lang.proofs.statements.operation.Goals as goal

pub returns-in_err-op-clause-moves : goal.returns-in_err-op-clause-moves
returns-in_err-op-clause-moves c = exits (w.WordOpName ∷ w.Open ∷ []) _ _ _ (λ x.
    []) _ c.from_residual.ensures.1 (λ more. c.in_err-op.ensures.moves (w.Open ∷ more))

pub returns-in_err-mark-clause-moves : goal.returns-in_err-mark-clause-moves
returns-in_err-mark-clause-moves c = exits (w.WordOpName ∷ w.Open ∷ []) _ _ _ (λ x.
    []) _ c.from_residual-in_err-mark.ensures.1
    (λ more. fails_along _ (c.in_ok-op.ensures.moves (w.Open ∷ more))
    (c.in_err-mark.ensures.moves (more)))
