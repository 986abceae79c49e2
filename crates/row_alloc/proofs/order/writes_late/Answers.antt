use Rattle.row_alloc.proofs.Common.{◌∙◌, ap, refl, arith}
use Rattle.row_alloc.specs.Order.{input_below}
use Rattle.row_alloc.proofs.order.writes_late.Goals as goal

pub returns : goal.returns
returns c = (
  λ _. record {
    late = λ p q j k before within same written read.
        c.loop-at.invariant q (omega (arith, within, c.loop-at-test.false)) p k before read
        (ap (input_below c.args.outs.now) written ∙ same);
  },
  λ _. refl,
)
