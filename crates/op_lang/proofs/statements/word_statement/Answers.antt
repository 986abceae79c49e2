use Rattle.std.proofs.Common.{[], ◌∷◌, ◌∙◌}
use Rattle.op_text.specs.declared.wanted.Wanted.TheVariants as w
use Rattle.op_lang.proofs.Taking.{exits, fails_along}
use Rattle.op_lang.proofs.statements.word_statement.Goals as goal

pub returns-in_err-second-clause-moves : goal.returns-in_err-second-clause-moves
returns-in_err-second-clause-moves c = exits (w.SecondTarget ∷ w.WordOpName ∷ w.Open ∷ w.Args
    ∷ w.WordEnd
    ∷ []) _ _ _ (λ x. []) _ c.from_residual.ensures.1
    (λ more. c.in_err-second.ensures.moves (w.WordOpName ∷ w.Open ∷ w.Args ∷ w.WordEnd ∷ more))

pub returns-in_err-op-clause-moves : goal.returns-in_err-op-clause-moves
returns-in_err-op-clause-moves c = exits (w.SecondTarget ∷ w.WordOpName ∷ w.Open ∷ w.Args
    ∷ w.WordEnd
    ∷ []) _ _ _ (λ x. []) _ c.from_residual-in_err-op.ensures.1
    (λ more. fails_along _ (c.in_ok-second.ensures.moves (w.WordOpName ∷ w.Open ∷ w.Args
    ∷ w.WordEnd ∷ more)) (c.in_err-op.ensures.moves (w.Args ∷ w.WordEnd ∷ more)))

pub returns-in_err-args-clause-moves : goal.returns-in_err-args-clause-moves
returns-in_err-args-clause-moves c = exits (w.SecondTarget ∷ w.WordOpName ∷ w.Open ∷ w.Args
    ∷ w.WordEnd
    ∷ []) _ _ _ (λ x. []) _ c.from_residual-in_err-args.ensures.1
    (λ more. fails_along _ (c.in_ok-second.ensures.moves (w.WordOpName ∷ w.Open ∷ w.Args
    ∷ w.WordEnd ∷ more) ∙ c.in_ok-op.ensures.moves (w.Args ∷ w.WordEnd ∷ more))
    (c.in_err-args.ensures.moves (w.WordEnd ∷ more)))

pub returns-in_err-mark-clause-moves : goal.returns-in_err-mark-clause-moves
returns-in_err-mark-clause-moves c = exits (w.SecondTarget ∷ w.WordOpName ∷ w.Open ∷ w.Args
    ∷ w.WordEnd
    ∷ []) _ _ _ (λ x. []) _ c.from_residual-in_err-mark.ensures.1
    (λ more. fails_along _ (c.in_ok-second.ensures.moves (w.WordOpName ∷ w.Open ∷ w.Args
    ∷ w.WordEnd ∷ more) ∙ c.in_ok-op.ensures.moves (w.Args ∷ w.WordEnd ∷ more)
    ∙ c.in_ok-args.ensures.moves (w.WordEnd ∷ more)) (c.in_err-mark.ensures.moves (more)))
