use Rattle.std.proofs.Common.{[], ◌∷◌}
use Rattle.op_text.specs.declared.wanted.Wanted.TheVariants as w
use Rattle.op_lang.proofs.Taking.{exits, continues}
use Rattle.op_lang.proofs.statements.let_line.Goals as goal

pub returns-in_err-name-clause-moves : goal.returns-in_err-name-clause-moves
returns-in_err-name-clause-moves c = exits (w.LetName ∷ w.Equals ∷ w.Value ∷ w.LetEnd
    ∷ []) _ _ _ (λ x. []) _ c.from_residual.ensures.1
    (λ more. c.in_err-name.ensures.moves (w.Equals ∷ w.Value ∷ w.LetEnd ∷ more))

pub returns-clause-moves : goal.returns-clause-moves
returns-clause-moves c =
    continues (w.LetName ∷ w.Equals ∷ w.Value ∷ w.LetEnd ∷ [])
    (w.Equals ∷ w.Value ∷ w.LetEnd ∷ []) [] _ _ _ _
    (λ more. c.in_ok-name.ensures.moves (w.Equals ∷ w.Value ∷ w.LetEnd ∷ more))
    c.assignment.ensures.moves
