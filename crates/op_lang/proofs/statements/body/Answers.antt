use Rattle.std.proofs.Common.{length, arith, [], ◌∷◌, refl, ap}
use Rattle.op_text.specs.declared.wanted.Wanted.TheVariants as w
use Rattle.op_text.specs.Spelling.{statement_text}
use Rattle.op_text.specs.Language.{statement}
use Rattle.op_lang.specs.Reading.{left}
use Rattle.op_lang.proofs.Taking.{exits, fails_along}
use Rattle.op_lang.proofs.Loops.{next_turn}
use Rattle.op_lang.proofs.Lengths.{statement_longer}
use Rattle.op_lang.proofs.statements.body.Goals as goal

pub returns-in_err-next-clause-moves : goal.returns-in_err-next-clause-moves
returns-in_err-next-clause-moves c = exits (w.FirstStmt ∷ []) _ _ _ (λ x.
    []) _ c.from_residual.ensures.1 (λ more. fails_along _ (c.loop-all.invariant.read.same more)
    (c.in_err-next.ensures.moves more))

pub loop-all-smaller : goal.loop-all-smaller
loop-all-smaller c =
    let s = rw c.in-Some.is at c.in_ok-next.ensures.spells in
    let a = ap length s in
    let d = statement_longer (statement c.in-Some.next) (left c.one_statement.new.parser) in
    omega arith

pub loop-all-preserved : goal.loop-all-preserved
loop-all-preserved c = record {
  is = refl;
  read = next_turn (w.FirstStmt ∷ []) c.loop-all.wanted w.Stmts statement_text statement _
      c.args.parser.now c.loop-all.all.items c.loop-all.parser _ c.in-Some.next
      c.one_statement.new.parser c.loop-all.invariant.read
      (λ more. let m = rw c.in-Some.is at (c.in_ok-next.ensures.moves more) in
      m) (let s = rw c.in-Some.is at c.in_ok-next.ensures.spells in
      s) c.in_ok-push.ensures.items;
}
