use Rattle.verify_core.proofs.Common.{◌≡◌, ◌+◌, take, bases, ◌*◌}
use Rattle.verify_core.proofs.canonical.first_rows.Given as goal

abbrev pub invariant-loop-kind : goal.invariant-loop-kind
invariant-loop-kind l = record {
  rows : l.rows.items ≡ bases l.n l.start (take l._kind-index l.kinds);
  next : l.next ≡ l.start + l.n * l._kind-index;
}
