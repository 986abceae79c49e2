use Rattle.std.proofs.Common.{◌≡◌, arith}
use Rattle.loop_ir.specs.declared.ir.Place.{Place}
use Rattle.loop_ir.specs.declared.ir.Space.TheVariants.{Result}
use Rattle.loop_ir.specs.declared.ir.Sub.TheVariants.{Zero}
use Rattle.loop_ir.specs.WellFormed.{IsOneValue}
use Rattle.loop_ir.proofs.Places.{refuses, each-more}
use Rattle.loop_ir.proofs.wells.agrees.Goals as goal

abbrev none : Place
none = record { space = Result; which = 0; sub = Zero }

pub returns-then-not-agree : goal.returns-then-not-agree
returns-then-not-agree c = refuses _ (λ q. IsOneValue c.args.write q
    → c.args.write.sub ≡ q.sub) c.args.reads.now c.loop-read.read-index none c.agree.result
    (omega arith) (cc) c.agree.ensures.1

pub loop-read-preserved : goal.loop-read-preserved
loop-read-preserved c = each-more (λ q. IsOneValue c.args.write q
    → c.args.write.sub ≡ q.sub) c.args.reads.now c.loop-read.read-index none (omega arith)
    c.loop-read.invariant (c.agree.ensures.0 (cc))
