use Rattle.std.proofs.Common.{[], ◌∷◌, ◌∙◌}
use Rattle.op_text.specs.declared.wanted.Wanted.TheVariants as w
use Rattle.op_lang.proofs.Taking.{exits, continues, fails_along}
use Rattle.op_lang.proofs.lists.states.Goals as goal

pub returns-in_err-name_or_end-clause-moves : goal.returns-in_err-name_or_end-clause-moves
returns-in_err-name_or_end-clause-moves c = exits (w.States ∷ []) _ _ _ (λ x.
    []) _ c.from_residual.ensures.1 (λ more. c.in_err-name_or_end.ensures.moves (more))

pub returns-in_err-first-in-Some-clause-moves : goal.returns-in_err-first-in-Some-clause-moves
returns-in_err-first-in-Some-clause-moves c =
    exits (w.States ∷ []) _ _ _ (λ x. []) _ c.from_residual-in_err-first-in-Some.ensures.1
    (λ more. fails_along _ (let m = rw c.in-Some.is at (c.in_ok-name_or_end.ensures.moves more) in
    m) (c.in_err-first-in-Some.ensures.moves (w.MoreStates ∷ more)))

pub returns-in_ok-first-in-Some-clause-moves : goal.returns-in_ok-first-in-Some-clause-moves
returns-in_ok-first-in-Some-clause-moves c =
    continues (w.States ∷ []) (w.MoreStates ∷ []) [] _ _ _ _
    (λ more. (let m = rw c.in-Some.is at (c.in_ok-name_or_end.ensures.moves more) in m)
    ∙ c.in_ok-first-in-Some.ensures.moves (w.MoreStates ∷ more)) c.states_after.ensures.moves
