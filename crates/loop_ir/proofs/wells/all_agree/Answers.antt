use Rattle.std.proofs.Common.{◌≡◌, ℕ, ◌<◌, length, arith}
use Rattle.loop_ir.specs.declared.ir.Place.{Place}
use Rattle.loop_ir.specs.declared.ir.Space.TheVariants.{Result}
use Rattle.loop_ir.specs.declared.ir.Sub.TheVariants.{Zero}
use Rattle.loop_ir.specs.Spots.{nth_place}
use Rattle.loop_ir.specs.WellFormed.{IsOneValue}
use Rattle.loop_ir.proofs.Places.{refuses, each-more}
use Rattle.loop_ir.proofs.wells.all_agree.Goals as goal

abbrev none : Place
none = record { space = Result; which = 0; sub = Zero }

pub returns-then-not-agrees : goal.returns-then-not-agrees
returns-then-not-agrees c =
    let r = refuses ⊥ (λ w. (k : ℕ) → k < length c.args.reads.now
    → IsOneValue w (nth_place c.args.reads.now k)
    → w.sub ≡ (nth_place c.args.reads.now k).sub) c.args.writes.now c.loop-write.write-index
    none c.agrees.result (omega arith) (cc) c.agrees.ensures.1 in
    (λ e. absurd (cc), λ all. r.1 (λ j l k m. all j k l m))

pub loop-write-preserved : goal.loop-write-preserved
loop-write-preserved c = λ j k l m.
    each-more (λ w. (k : ℕ) → k < length c.args.reads.now
    → IsOneValue w (nth_place c.args.reads.now k)
    → w.sub ≡ (nth_place c.args.reads.now k).sub) c.args.writes.now c.loop-write.write-index
    none (omega arith)
    (λ j l k m. c.loop-write.invariant j k l m) (c.agrees.ensures.0 (cc)) j l k m
