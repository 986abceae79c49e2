use Rattle.object_alloc.proofs.Common.{codes, to_le_bytes, w16}
use Rattle.object_alloc.proofs.Written.{five}
use Rattle.object_alloc.proofs.spelling.put_opening.Goals as goal

pub returns-clause-items : goal.returns-clause-items
returns-clause-items c =
    let g = c.args.g in
    rw (
      c.append-5.ensures.items,
      c.append-4.ensures.items,
      c.append-3.ensures.items,
      c.append-2.ensures.items,
      c.append.ensures.items,
      c.to_le_bytes-4.ensures,
      c.to_le_bytes-3.ensures,
      c.to_le_bytes-2.ensures,
      c.to_le_bytes.ensures,
    )
    (five c.args.out.now.items (codes "SDMI") (to_le_bytes w16 1) (to_le_bytes w16 g.banks)
    (to_le_bytes w16 g.rows) (to_le_bytes w16 g.words))
