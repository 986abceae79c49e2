use Rattle.std.proofs.Common.{sym, arith}
use Rattle.loop_ir.proofs.Outs.{nth-at, nth-beyond}
use Rattle.loop_ir.proofs.rows.place_at.Goals as goal

pub returns-then-k-places : goal.returns-then-k-places
returns-then-k-places c = nth-at c.args.places.now c.args.k _ c.if-k-places.true

pub returns-else-k-places : goal.returns-else-k-places
returns-else-k-places c = let past = c.if-k-places.false in
    sym (nth-beyond c.args.places.now c.args.k (omega (arith, past)))
