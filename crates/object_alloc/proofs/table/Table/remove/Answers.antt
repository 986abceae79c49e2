use Rattle.object_alloc.proofs.Common.{◌≡◌, true, arith, All-filter, fits_name}
use Rattle.object_alloc.specs.Listed.{Named}
use Rattle.object_alloc.proofs.Tables.{IsTable-without}
use Rattle.object_alloc.proofs.table.Table.remove.Goals as goal

pub invariant_of-self : goal.invariant_of-self
invariant_of-self c =
    let h = c.self.invariant in (
      h.0,
      rw c.take_away.ensures.rest (IsTable-without _ _ _ h.1),
      omega arith,
      rw c.take_away.ensures.rest (All-filter _ (λ (p : Named). fits_name p.0 ≡ true)
          c.self.inside.pairs.items h.3),
    )
