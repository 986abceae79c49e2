use Rattle.object_alloc.proofs.Common.{◌≡◌, true, arith, All-push, fits_name}
use Rattle.object_alloc.specs.Listed.{Named}
use Rattle.object_alloc.proofs.Tables.{IsTable-added}
use Rattle.object_alloc.proofs.table.Table.add.Goals as goal

pub invariant_of-self : goal.invariant_of-self
invariant_of-self c =
    let h = c.self.invariant in (
      h.0,
      rw c.in-Ok.ensures.items (IsTable-added _ _ _ c.self.view_is _ _ h.1 c.requires.few
          c.requires.new c.requires.some c.requires.rows),
      omega arith,
      rw c.in-Ok.ensures.items (All-push (λ (p : Named). fits_name p.0 ≡ true)
          c.self.inside.pairs.items (c.args.name, c.args.o) h.3 c.bytes.ensures.fits),
    )
