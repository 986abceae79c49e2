use Rattle.std.proofs.Common.{arith}
use Rattle.loop_ir.specs.declared.ir.Place.{Place}
use Rattle.loop_ir.specs.declared.ir.Space.TheVariants.{Result}
use Rattle.loop_ir.specs.declared.ir.Sub.TheVariants.{Zero}
use Rattle.loop_ir.specs.WellFormed.{IsOneValue}
use Rattle.loop_ir.proofs.Places.{refuses, each-more}
use Rattle.loop_ir.proofs.wells.is_apart.Goals as goal

abbrev none : Place
none = record { space = Result; which = 0; sub = Zero }

pub returns-then-not-are_two_values : goal.returns-then-not-are_two_values
returns-then-not-are_two_values c = refuses _ (λ q. IsOneValue c.args.p q
    → ⊥) c.args.others.now c.loop-other.other-index none c.are_two_values.result (omega arith) (cc)
    c.are_two_values.ensures.1

pub loop-other-preserved : goal.loop-other-preserved
loop-other-preserved c = each-more (λ q. IsOneValue c.args.p q
    → ⊥) c.args.others.now c.loop-other.other-index none (omega arith) c.loop-other.invariant
    (c.are_two_values.ensures.0 (cc))
