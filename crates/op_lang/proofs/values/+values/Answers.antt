use Rattle.std.proofs.Common.{[], ◌∷◌, ◌∙◌, ap, codes}
use Rattle.op_text.specs.declared.wanted.Wanted.TheVariants as w
use Rattle.op_lang.proofs.Taking.{exits, continues, fails_along, then_memory, spells_by}
use Rattle.op_text.specs.Language.{term, Majority}
use Rattle.op_text.specs.Spelling.{term_text}
use Rattle.op_lang.proofs.values.+values.Goals as goal

pub arguments-returns-in_err-gate_open-clause-moves :
    goal.arguments-returns-in_err-gate_open-clause-moves
arguments-returns-in_err-gate_open-clause-moves t c = λ outer h.
    exits (w.GateOpen ∷ w.Value ∷ w.More ∷ []) _ _ _ (λ x. []) _ c.from_residual.ensures.1
    (λ more. c.in_err-gate_open.ensures.moves (w.Value ∷ w.More ∷ more))

pub one_argument-returns-in_err-a-clause-moves : goal.one_argument-returns-in_err-a-clause-moves
one_argument-returns-in_err-a-clause-moves t c = λ outer h.
    exits (w.Value ∷ w.More ∷ []) _ _ _ (λ x. []) _ c.from_residual.ensures.1
    (λ more. c.in_err-a.ensures.moves (w.More ∷ more))

pub one_argument-returns-in_err-close-clause-moves :
    goal.one_argument-returns-in_err-close-clause-moves
one_argument-returns-in_err-close-clause-moves t c = λ outer h.
    exits (w.Value ∷ w.More ∷ []) _ _ _ (λ x. []) _ c.from_residual-in_err-close.ensures.1
    (λ more. fails_along _ (c.in_ok-a.ensures.moves (w.More ∷ more))
    (c.in_err-close.ensures.moves outer (c.in_ok-a.ensures.missing ∙ h) more))

pub pair-returns-in_err-a-clause-moves : goal.pair-returns-in_err-a-clause-moves
pair-returns-in_err-a-clause-moves t c = λ outer h.
    exits (w.Value ∷ w.More ∷ []) _ _ _ (λ x. []) _ c.from_residual.ensures.1
    (λ more. c.in_err-a.ensures.moves (w.More ∷ more))

pub pair-returns-in_err-comma-clause-moves : goal.pair-returns-in_err-comma-clause-moves
pair-returns-in_err-comma-clause-moves t c = λ outer h.
    exits (w.Value ∷ w.More ∷ []) _ _ _ (λ x. []) _ c.from_residual-in_err-comma.ensures.1
    (λ more. fails_along _ (c.in_ok-a.ensures.moves (w.More ∷ more))
    (c.in_err-comma.ensures.moves 0 outer (c.in_ok-a.ensures.missing ∙ h) more))

pub pair-returns-in_err-b-clause-moves : goal.pair-returns-in_err-b-clause-moves
pair-returns-in_err-b-clause-moves t c = λ outer h.
    exits (w.Value ∷ w.More ∷ []) _ _ _ (λ x. []) _ c.from_residual-in_err-b.ensures.1
    (λ more. fails_along _ (c.in_ok-a.ensures.moves (w.More ∷ more)
    ∙ c.in_ok-comma.ensures.moves 0 outer (c.in_ok-a.ensures.missing ∙ h) more)
    (c.in_err-b.ensures.moves (w.More ∷ more)))

pub pair-returns-in_err-close-clause-moves : goal.pair-returns-in_err-close-clause-moves
pair-returns-in_err-close-clause-moves t c = λ outer h.
    exits (w.Value ∷ w.More ∷ []) _ _ _ (λ x. []) _ c.from_residual-in_err-close.ensures.1
    (λ more. fails_along _ (c.in_ok-a.ensures.moves (w.More ∷ more)
    ∙ c.in_ok-comma.ensures.moves 0 outer (c.in_ok-a.ensures.missing ∙ h) more
    ∙ c.in_ok-b.ensures.moves (w.More ∷ more))
    (c.in_err-close.ensures.moves outer (c.in_ok-b.ensures.missing
    ∙ c.in_ok-comma.ensures.missing 0 outer (c.in_ok-a.ensures.missing ∙ h)) more))

pub three_arguments-returns-in_err-a-clause-moves :
    goal.three_arguments-returns-in_err-a-clause-moves
three_arguments-returns-in_err-a-clause-moves t c = λ outer h.
    exits (w.Value ∷ w.More ∷ []) _ _ _ (λ x. []) _ c.from_residual.ensures.1
    (λ more. c.in_err-a.ensures.moves (w.More ∷ more))

pub three_arguments-returns-in_err-comma-clause-moves :
    goal.three_arguments-returns-in_err-comma-clause-moves
three_arguments-returns-in_err-comma-clause-moves t c = λ outer h.
    exits (w.Value ∷ w.More ∷ []) _ _ _ (λ x. []) _ c.from_residual-in_err-comma.ensures.1
    (λ more. fails_along _ (c.in_ok-a.ensures.moves (w.More ∷ more))
    (c.in_err-comma.ensures.moves 1 outer (c.in_ok-a.ensures.missing ∙ h) more))

pub three_arguments-returns-in_err-b-clause-moves :
    goal.three_arguments-returns-in_err-b-clause-moves
three_arguments-returns-in_err-b-clause-moves t c = λ outer h.
    exits (w.Value ∷ w.More ∷ []) _ _ _ (λ x. []) _ c.from_residual-in_err-b.ensures.1
    (λ more. fails_along _ (c.in_ok-a.ensures.moves (w.More ∷ more)
    ∙ c.in_ok-comma.ensures.moves 1 outer (c.in_ok-a.ensures.missing ∙ h) more)
    (c.in_err-b.ensures.moves outer (c.in_ok-comma.ensures.missing 1 outer
    (c.in_ok-a.ensures.missing ∙ h)) more))

pub three_arguments-returns-clause-moves : goal.three_arguments-returns-clause-moves
three_arguments-returns-clause-moves t c = λ outer h.
    then_memory (w.Value ∷ w.More ∷ []) _ _ (λ x. []) _ c.maj_of.ensures.memory
    (λ x more. c.in_ok-a.ensures.moves (w.More ∷ more)
    ∙ c.in_ok-comma.ensures.moves 1 outer (c.in_ok-a.ensures.missing ∙ h) more
    ∙ c.in_ok-b.ensures.moves outer (c.in_ok-comma.ensures.missing 1 outer
    (c.in_ok-a.ensures.missing ∙ h)) more)

pub three_arguments-returns-clause-spells : goal.three_arguments-returns-clause-spells
three_arguments-returns-clause-spells t c = λ outer h.
    spells_by c.maj_of.result (Majority (term c.in_ok-a.a) (term c.in_ok-b.b) (term c.in_ok-b.c)) _
    _ c.maj_of.ensures.value
    (ap (λ l. codes "maj" ∷ codes "(" ∷ l) (c.in_ok-a.ensures.spells
    ∙ ap (term_text (term c.in_ok-a.a)) (c.in_ok-comma.ensures.spells 1 outer
    (c.in_ok-a.ensures.missing ∙ h)
    ∙ ap (λ l. codes "," ∷ l) (c.in_ok-b.ensures.spells outer
    (c.in_ok-comma.ensures.missing 1 outer (c.in_ok-a.ensures.missing ∙ h))))))

pub value-returns-in-Gate-clause-moves : goal.value-returns-in-Gate-clause-moves
value-returns-in-Gate-clause-moves t c =
    continues (w.Value ∷ []) (w.GateOpen ∷ w.Value ∷ w.More ∷ []) [] _ _ _ _
    (λ more. let m = rw c.in-Gate.is at (c.in_ok-leaf.ensures.moves more) in m)
    (c.arguments.ensures.moves c.args.parser.now.scope.block.missing
    (let m = rw c.in-Gate.is at c.in_ok-leaf.ensures.missing in m))
