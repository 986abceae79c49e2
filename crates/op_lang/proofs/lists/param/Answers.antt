use Rattle.std.proofs.Common.{[], ◌∷◌, ◌∙◌}
use Rattle.op_text.specs.declared.wanted.Wanted.TheVariants as w
use Rattle.op_lang.proofs.Taking.{exits, fails_along}
use Rattle.op_lang.proofs.lists.param.Goals as goal

pub returns-in_err-name-clause-moves : goal.returns-in_err-name-clause-moves
returns-in_err-name-clause-moves c = exits (c.args.naming ∷ w.Colon ∷ c.args.kinding
    ∷ []) _ _ _ (λ x. []) _ c.from_residual.ensures.1
    (λ more. c.in_err-name.ensures.moves (w.Colon ∷ c.args.kinding ∷ more))

pub returns-in_err-mark-clause-moves : goal.returns-in_err-mark-clause-moves
returns-in_err-mark-clause-moves c = exits (c.args.naming ∷ w.Colon ∷ c.args.kinding
    ∷ []) _ _ _ (λ x. []) _ c.from_residual-in_err-mark.ensures.1
    (λ more. fails_along _ (c.in_ok-name.ensures.moves (w.Colon ∷ c.args.kinding ∷ more))
    (c.in_err-mark.ensures.moves (c.args.kinding ∷ more)))

pub returns-in_err-kind-clause-moves : goal.returns-in_err-kind-clause-moves
returns-in_err-kind-clause-moves c = exits (c.args.naming ∷ w.Colon ∷ c.args.kinding
    ∷ []) _ _ _ (λ x. []) _ c.from_residual-in_err-kind.ensures.1
    (λ more. fails_along _ (c.in_ok-name.ensures.moves (w.Colon ∷ c.args.kinding ∷ more)
    ∙ c.in_ok-mark.ensures.moves (c.args.kinding ∷ more)) (c.in_err-kind.ensures.moves (more)))
