use Rattle.std.proofs.Common.{length, arith, [], ◌∷◌, sym, ap}
use Rattle.op_text.specs.declared.wanted.Wanted.TheVariants as w
use Rattle.op_text.specs.Spelling.{operation_text}
use Rattle.op_text.specs.Language.{operation}
use Rattle.op_lang.specs.Reading.{left}
use Rattle.op_lang.proofs.Taking.{fails_along}
use Rattle.op_lang.proofs.Loops.{next_turn}
use Rattle.op_lang.proofs.Lengths.{operation_longer}
use Rattle.op_lang.proofs.Ending.{ops_exit, ops_end}
use Rattle.op_lang.proofs.parse.all_ops.Goals as goal

pub returns-in_err-next : goal.returns-in_err-next
returns-in_err-next c = ops_exit (λ v. v.items) _ _ _ c.from_residual.ensures.1
    (fails_along _ (c.loop-alloc.invariant.same []) (c.in_err-next.ensures.moves []))

pub loop-alloc-smaller : goal.loop-alloc-smaller
loop-alloc-smaller c =
    let a = ap length c.in_ok-next.ensures.spells in
    let d = operation_longer (operation c.in_ok-next.next) (left c.one_op.new.parser) in
    omega arith

pub loop-alloc-preserved : goal.loop-alloc-preserved
loop-alloc-preserved c =
    next_turn (w.Ops ∷ []) w.Ops w.Ops operation_text operation _ c.args.parser.now
    c.loop-alloc.all.items c.loop-alloc.parser _ c.in_ok-next.next c.one_op.new.parser
    c.loop-alloc.invariant
    (λ more. c.in_ok-next.ensures.moves more) c.in_ok-next.ensures.spells c.in_ok-push.ensures.items

pub returns : goal.returns
returns c = ops_end (λ v. v.items) c.loop-alloc.all c.args.parser.now c.loop-alloc.parser
    c.loop-alloc.invariant (sym c.loop-alloc-test.ensures)
