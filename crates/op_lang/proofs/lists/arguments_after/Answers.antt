use Rattle.std.proofs.Common.{[], ◌∷◌, ◌∙◌, ap, codes}
use Rattle.op_text.specs.declared.wanted.Wanted.TheVariants as w
use Rattle.op_text.specs.Spelling.{name_text}
use Rattle.op_lang.proofs.Taking.{exits, fails_along}
use Rattle.op_lang.proofs.Loops.{next_part}
use Rattle.op_lang.proofs.lists.arguments_after.Goals as goal

pub returns-in_err-more-clause-moves : goal.returns-in_err-more-clause-moves
returns-in_err-more-clause-moves c = exits (w.MoreArgs ∷ []) _ _ _ (λ x.
    []) _ c.from_residual-in_err-more.ensures.1
    (λ more. fails_along _ (c.loop-names.invariant.same more) (c.in_err-more.ensures.moves more))

pub returns-in_err-next-clause-moves : goal.returns-in_err-next-clause-moves
returns-in_err-next-clause-moves c = exits (w.MoreArgs ∷ []) _ _ _ (λ x.
    []) _ c.from_residual-in_err-next.ensures.1
    (λ more. fails_along _ (c.loop-names.invariant.same more
    ∙ (let m = rw c.if-branch.true at (c.in_ok-more.ensures.moves more) in
    m)) (c.in_err-next.ensures.moves (w.MoreArgs ∷ more)))

pub loop-names-preserved : goal.loop-names-preserved
loop-names-preserved c =
    next_part w.MoreArgs name_text _ c.args.parser.now c.loop-names.names.items c.loop-names.parser
    _ c.in_ok-next.next c.name.new.parser c.loop-names.invariant
    (λ more. (let m = rw c.if-branch.true at (c.in_ok-more.ensures.moves more) in m)
    ∙ c.in_ok-next.ensures.moves (w.MoreArgs ∷ more))
    ((let s = rw c.if-branch.true at c.in_ok-more.ensures.spells in s)
    ∙ ap (λ l. codes "," ∷ l) (c.in_ok-next.ensures.spells)) c.in_ok-push-2.ensures.items

pub returns-clause-moves : goal.returns-clause-moves
returns-clause-moves c = λ more. c.loop-names.invariant.same more
    ∙ (let m = rw c.if-branch.false at (c.in_ok-more.ensures.moves more) in m)
