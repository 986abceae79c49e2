use Rattle.std.proofs.Common.{[], ◌∷◌, ◌∙◌, ap, codes}
use Rattle.op_text.specs.declared.wanted.Wanted.TheVariants as w
use Rattle.op_text.specs.Spelling.{state_text}
use Rattle.op_lang.proofs.Taking.{exits, fails_along}
use Rattle.op_lang.proofs.Loops.{next_part}
use Rattle.op_lang.proofs.lists.states_after.Goals as goal

pub returns-in_err-more-clause-moves : goal.returns-in_err-more-clause-moves
returns-in_err-more-clause-moves c = exits (w.MoreStates ∷ []) _ _ _ (λ x.
    []) _ c.from_residual-in_err-more.ensures.1
    (λ more. fails_along _ (c.loop-states.invariant.same more) (c.in_err-more.ensures.moves more))

pub returns-in_err-name-clause-moves : goal.returns-in_err-name-clause-moves
returns-in_err-name-clause-moves c = exits (w.MoreStates ∷ []) _ _ _ (λ x.
    []) _ c.from_residual-in_err-name.ensures.1
    (λ more. fails_along _ (c.loop-states.invariant.same more
    ∙ (let m = rw c.if-branch.true at (c.in_ok-more.ensures.moves more) in
    m)) (c.in_err-name.ensures.moves (w.Equals ∷ w.Start ∷ w.MoreStates ∷ more)))

pub returns-in_err-next-clause-moves : goal.returns-in_err-next-clause-moves
returns-in_err-next-clause-moves c = exits (w.MoreStates ∷ []) _ _ _ (λ x.
    []) _ c.from_residual-in_err-next.ensures.1
    (λ more. fails_along _ (c.loop-states.invariant.same more
    ∙ (let m = rw c.if-branch.true at (c.in_ok-more.ensures.moves more) in m)
    ∙ c.in_ok-name.ensures.moves (w.Equals ∷ w.Start ∷ w.MoreStates ∷ more))
    (c.in_err-next.ensures.moves (w.MoreStates ∷ more)))

pub loop-states-preserved : goal.loop-states-preserved
loop-states-preserved c =
    next_part w.MoreStates state_text _ c.args.parser.now c.loop-states.states.items
    c.loop-states.parser _ c.in_ok-next.next c.state.new.parser c.loop-states.invariant
    (λ more. (let m = rw c.if-branch.true at (c.in_ok-more.ensures.moves more) in m)
    ∙ c.in_ok-name.ensures.moves (w.Equals ∷ w.Start ∷ w.MoreStates ∷ more)
    ∙ c.in_ok-next.ensures.moves (w.MoreStates ∷ more))
    ((let s = rw c.if-branch.true at c.in_ok-more.ensures.spells in s)
    ∙ ap (λ l. codes "," ∷ l) (c.in_ok-name.ensures.spells ∙ c.in_ok-next.ensures.spells))
    c.in_ok-push-2.ensures.items

pub returns-clause-moves : goal.returns-clause-moves
returns-clause-moves c = λ more. c.loop-states.invariant.same more
    ∙ (let m = rw c.if-branch.false at (c.in_ok-more.ensures.moves more) in m)
