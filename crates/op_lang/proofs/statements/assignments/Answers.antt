use Rattle.std.proofs.Common.{length, arith, [], ◌∷◌, ◌∙◌, ap}
use Rattle.op_text.specs.declared.wanted.Wanted.TheVariants as w
use Rattle.op_text.specs.Spelling.{equation_text}
use Rattle.op_text.specs.Language.{equation}
use Rattle.op_lang.specs.Reading.{left}
use Rattle.op_lang.proofs.Taking.{exits, fails_along}
use Rattle.op_lang.proofs.Loops.{next_turn}
use Rattle.op_lang.proofs.Lengths.{equation_longer}
use Rattle.op_lang.proofs.statements.assignments.Goals as goal

pub returns-in_err-first-clause-moves : goal.returns-in_err-first-clause-moves
returns-in_err-first-clause-moves c = exits (w.Equals ∷ w.Value ∷ w.AssignEnd ∷ w.Assigns
    ∷ []) _ _ _ (λ x. []) _ c.from_residual.ensures.1
    (λ more. c.in_err-first.ensures.moves (w.Assigns ∷ more))

pub returns-in_err-target-clause-moves : goal.returns-in_err-target-clause-moves
returns-in_err-target-clause-moves c = exits (w.Equals ∷ w.Value ∷ w.AssignEnd ∷ w.Assigns
    ∷ []) _ _ _ (λ x. []) _ c.from_residual-in_err-target.ensures.1
    (λ more. fails_along _ (c.loop-all.invariant.same more) (c.in_err-target.ensures.moves more))

pub returns-in_err-next-clause-moves : goal.returns-in_err-next-clause-moves
returns-in_err-next-clause-moves c = exits (w.Equals ∷ w.Value ∷ w.AssignEnd ∷ w.Assigns
    ∷ []) _ _ _ (λ x. []) _ c.from_residual-in_err-next.ensures.1
    (λ more. fails_along _ (c.loop-all.invariant.same more
    ∙ (let m = rw c.in-Some.is at (c.in_ok-target.ensures.moves more) in
    m)) (c.in_err-next.ensures.moves (w.Assigns ∷ more)))

pub loop-all-smaller : goal.loop-all-smaller
loop-all-smaller c =
    let a = ap length c.in_ok-target.ensures.spells in
    let b = ap length c.in_ok-next.ensures.spells in
    let d = equation_longer (equation c.in_ok-next.next) (left c.assignment-in-Some.new.parser) in
    omega arith

pub loop-all-preserved : goal.loop-all-preserved
loop-all-preserved c =
    next_turn (w.Equals ∷ w.Value ∷ w.AssignEnd ∷ w.Assigns ∷ []) w.Assigns w.Assigns equation_text
    equation _ c.args.parser.now c.loop-all.all.items c.loop-all.parser _ c.in_ok-next.next
    c.assignment-in-Some.new.parser c.loop-all.invariant
    (λ more. (let m = rw c.in-Some.is at (c.in_ok-target.ensures.moves more) in m)
    ∙ c.in_ok-next.ensures.moves (w.Assigns ∷ more))
    ((let s = rw c.in-Some.is at c.in_ok-target.ensures.spells in s)
    ∙ c.in_ok-next.ensures.spells) c.in_ok-push-2.ensures.items
