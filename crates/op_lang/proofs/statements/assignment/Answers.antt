use Rattle.std.proofs.Common.{[], ◌∷◌, ◌∙◌, ap, codes}
use Rattle.op_text.specs.declared.wanted.Wanted.TheVariants as w
use Rattle.op_text.specs.Spelling.{term_text}
use Rattle.op_text.specs.Language.{term}
use Rattle.op_lang.specs.Reading.{left}
use Rattle.op_lang.proofs.Taking.{exits, fails_along}
use Rattle.op_lang.proofs.statements.assignment.Goals as goal

pub returns-in_err-mark-clause-moves : goal.returns-in_err-mark-clause-moves
returns-in_err-mark-clause-moves c = exits (w.Equals ∷ w.Value ∷ c.args.end ∷ []) _ _ _ (λ x.
    []) _ c.from_residual.ensures.1 (λ more. c.in_err-mark.ensures.moves (w.Value ∷ c.args.end
    ∷ more))

pub returns-in_err-value-clause-moves : goal.returns-in_err-value-clause-moves
returns-in_err-value-clause-moves c = exits (w.Equals ∷ w.Value ∷ c.args.end ∷ []) _ _ _ (λ x.
    []) _ c.from_residual-in_err-value.ensures.1
    (λ more. fails_along _ (c.in_ok-mark.ensures.moves (w.Value ∷ c.args.end ∷ more))
    (c.in_err-value.ensures.moves (c.args.end ∷ more)))

pub returns-in_err-mark-2-clause-moves : goal.returns-in_err-mark-2-clause-moves
returns-in_err-mark-2-clause-moves c = exits (w.Equals ∷ w.Value ∷ c.args.end ∷ []) _ _ _ (λ x.
    []) _ c.from_residual-in_err-mark-2.ensures.1
    (λ more. fails_along _ (c.in_ok-mark.ensures.moves (w.Value ∷ c.args.end ∷ more)
    ∙ c.in_ok-value.ensures.moves (c.args.end ∷ more)) (c.in_err-mark-2.ensures.moves (more)))

pub returns-clause-spells : goal.returns-clause-spells
returns-clause-spells c =
    ap (λ l. c.args.name ∷ l) (c.in_ok-mark.ensures.spells
    ∙ ap (λ l. codes "=" ∷ l) (c.in_ok-value.ensures.spells
    ∙ ap (term_text (term c.in_ok-value.value)) (c.in_ok-mark-2.ensures.spells
    ∙ ap (λ x. x ∷ left c.mark-2.new.parser) c.requires.semi)))
