use Rattle.std.proofs.Common.{[], ◌∷◌}
use Rattle.op_text.specs.declared.wanted.Wanted.TheVariants as w
use Rattle.op_lang.proofs.Taking.{exits, continues}
use Rattle.op_lang.proofs.lists.arguments.Goals as goal

pub returns-in_err-name_or_end-clause-moves : goal.returns-in_err-name_or_end-clause-moves
returns-in_err-name_or_end-clause-moves c = exits (w.Args ∷ []) _ _ _ (λ x.
    []) _ c.from_residual.ensures.1 (λ more. c.in_err-name_or_end.ensures.moves (more))

pub returns-in-Some-clause-moves : goal.returns-in-Some-clause-moves
returns-in-Some-clause-moves c =
    continues (w.Args ∷ []) (w.MoreArgs ∷ []) [] _ _ _ _
    (λ more. let m = rw c.in-Some.is at (c.in_ok-name_or_end.ensures.moves more) in m)
    c.arguments_after.ensures.moves
