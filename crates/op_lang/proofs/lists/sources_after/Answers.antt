use Rattle.std.proofs.Common.{[], ◌∷◌, ◌∙◌, ap, codes}
use Rattle.op_text.specs.declared.wanted.Wanted.TheVariants as w
use Rattle.op_text.specs.Spelling.{param_text}
use Rattle.op_lang.proofs.Taking.{exits, fails_along}
use Rattle.op_lang.proofs.Loops.{next_part}
use Rattle.op_lang.proofs.lists.sources_after.Goals as goal

pub returns-in_err-more-clause-moves : goal.returns-in_err-more-clause-moves
returns-in_err-more-clause-moves c = exits (w.Params ∷ []) _ _ _ (λ x.
    []) _ c.from_residual-in_err-more.ensures.1
    (λ more. fails_along _ (c.loop-params.invariant.same more) (c.in_err-more.ensures.moves more))

pub returns-in_err-next-clause-moves : goal.returns-in_err-next-clause-moves
returns-in_err-next-clause-moves c = exits (w.Params ∷ []) _ _ _ (λ x.
    []) _ c.from_residual-in_err-next.ensures.1
    (λ more. fails_along _ (c.loop-params.invariant.same more
    ∙ (let m = rw c.if-branch.true at (c.in_ok-more.ensures.moves more) in
    m)) (c.in_err-next.ensures.moves (w.Params ∷ more)))

pub loop-params-preserved : goal.loop-params-preserved
loop-params-preserved c =
    next_part w.Params param_text _ c.args.parser.now c.loop-params.params.items
    c.loop-params.parser _ c.in_ok-next.next c.param.new.parser c.loop-params.invariant
    (λ more. (let m = rw c.if-branch.true at (c.in_ok-more.ensures.moves more) in m)
    ∙ c.in_ok-next.ensures.moves (w.Params ∷ more))
    ((let s = rw c.if-branch.true at c.in_ok-more.ensures.spells in s)
    ∙ ap (λ l. codes "," ∷ l) (c.in_ok-next.ensures.spells)) c.in_ok-push-2.ensures.items

pub returns-clause-moves : goal.returns-clause-moves
returns-clause-moves c = λ more. c.loop-params.invariant.same more
    ∙ (let m = rw c.if-branch.false at (c.in_ok-more.ensures.moves more) in m)
