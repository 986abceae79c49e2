use Rattle.std.proofs.Common.{List, length, arith, get_or, take, drop, ◌-◌}
use Rattle.loop_ir.specs.declared.ir.Place.{Place}
use Rattle.loop_ir.specs.declared.ir.Space.TheVariants.{Result}
use Rattle.loop_ir.specs.declared.ir.Sub.TheVariants.{Zero}
use Rattle.loop_ir.proofs.Places.{front, apart-is, apart-first-of}
use Rattle.loop_ir.proofs.wells.+are_apart.Goals as goal

abbrev none : Place
none = record { space = Result; which = 0; sub = Zero }

abbrev rest : List Place → List Place
rest ps = take (length ps - 1) (drop 1 ps)

pub returns-then-is_apart : goal.returns-then-is_apart
returns-then-is_apart t c =
    let ps = c.args.places.now in
    let a = c.is_apart.ensures in
    let b = c.are_apart.ensures in
    let h = apart-is ps (rest ps) (get_or ps 0 none) c.is_apart.result c.are_apart.result
    (front ps none (omega arith)) a.0 a.1 b.0 b.1 in
    (λ e. h.0 (cc) e, λ all. (h.1 all).1)

pub returns-else-is_apart : goal.returns-else-is_apart
returns-else-is_apart t c =
    let ps = c.args.places.now in
    let a = c.is_apart.ensures in (
      λ e. absurd (cc),
      λ all. a.1 (apart-first-of ps (rest ps) (get_or ps 0 none)
          (front ps none (omega arith)) all),
    )
