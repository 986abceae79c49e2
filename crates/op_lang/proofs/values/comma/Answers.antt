use Rattle.std.proofs.Common.{[], ◌∷◌}
use Rattle.op_text.specs.declared.wanted.Wanted.TheVariants as w
use Rattle.op_lang.proofs.Taking.{exits}
use Rattle.op_lang.proofs.Single.{comma_took}
use Rattle.op_lang.proofs.values.comma.Goals as goal

pub returns-in_err-take-clause-moves : goal.returns-in_err-take-clause-moves
returns-in_err-take-clause-moves c = λ n outer h.
    exits (w.More ∷ []) _ _ _ (λ x. w.Value ∷ w.More ∷ []) _ c.from_residual.ensures.1
    c.in_err-take.ensures

pub returns-clause-moves : goal.returns-clause-moves
returns-clause-moves c = λ n outer h more. (comma_took _ _ _ _ n outer h c.in_ok-take.ensures).moves
    more
