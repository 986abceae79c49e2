use Rattle.verify_core.proofs.Common.{◌≡◌, ◌+◌, take, numbers, assigned, column_of, bases, ◌*◌}
use Rattle.verify_core.proofs.case.numbers.Given as goal

abbrev pub invariant-loop-kind : goal.invariant-loop-kind
invariant-loop-kind l = record {
  all : l.all.items ≡ numbers l.n (take l.kind-index l.kinds)
      (bases l.n l.start (take l.kind-index l.kinds))
      (column_of l.diagram.nodes (assigned l.path) l.column);
  next : l.next ≡ l.start + l.n * l.kind-index;
}
