use Rattle.std.proofs.Common.{length, arith, [], ◌∷◌, ◌∙◌, ap, codes}
use Rattle.op_text.specs.declared.wanted.Wanted.TheVariants as w
use Rattle.op_text.specs.Spelling.{let_text}
use Rattle.op_text.specs.Language.{equation}
use Rattle.op_lang.specs.Reading.{left}
use Rattle.op_lang.proofs.Taking.{exits, fails_along}
use Rattle.op_lang.proofs.Loops.{next_turn}
use Rattle.op_lang.proofs.Lengths.{equation_longer}
use Rattle.op_lang.proofs.statements.lets.Goals as goal

pub returns-in_err-target-clause-moves : goal.returns-in_err-target-clause-moves
returns-in_err-target-clause-moves c = exits (w.Lets ∷ []) _ _ _ (λ n. w.Equals ∷ w.Value
    ∷ w.AssignEnd ∷ w.Assigns ∷ []) _ c.from_residual.ensures.1
    (λ more. fails_along _ (c.loop-target.invariant.same more) (c.in_err-target.ensures.moves more))

pub returns-in_err-next-in-None-clause-moves : goal.returns-in_err-next-in-None-clause-moves
returns-in_err-next-in-None-clause-moves c = exits (w.Lets ∷ []) _ _ _ (λ n. w.Equals ∷ w.Value
    ∷ w.AssignEnd ∷ w.Assigns ∷ []) _ c.from_residual-in_err-next-in-None.ensures.1
    (λ more. fails_along _ (c.loop-target.invariant.same more
    ∙ (let m = rw c.in-None.is at (c.in_ok-target.ensures.moves more) in
    m)) (c.in_err-next-in-None.ensures.moves (w.Lets ∷ more)))

pub loop-target-smaller : goal.loop-target-smaller
loop-target-smaller c =
    let a = ap length c.in_ok-target.ensures.spells in
    let b = ap length c.in_ok-next-in-None.ensures.spells in
    let d = equation_longer (equation c.in_ok-next-in-None.next) (left c.let_line.new.parser) in
    omega arith

pub loop-target-preserved : goal.loop-target-preserved
loop-target-preserved c =
    next_turn (w.Lets ∷ []) w.Lets w.Lets let_text equation _ c.args.parser.now
    c.loop-target.all.items c.loop-target.parser _ c.in_ok-next-in-None.next
    c.let_line.new.parser c.loop-target.invariant
    (λ more. (let m = rw c.in-None.is at (c.in_ok-target.ensures.moves more) in m)
    ∙ c.in_ok-next-in-None.ensures.moves (w.Lets ∷ more))
    ((let s = rw c.in-None.is at c.in_ok-target.ensures.spells in s)
    ∙ ap (λ l. codes "let" ∷ l) c.in_ok-next-in-None.ensures.spells)
    c.in_ok-push-in-None.ensures.items
