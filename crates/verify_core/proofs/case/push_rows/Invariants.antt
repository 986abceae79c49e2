use Rattle.verify_core.proofs.Common.{◌≡◌, filter, range_with_len, D, assigned, column_of, ◌++◌}
use Rattle.verify_core.proofs.Common.{map}
use Rattle.verify_core.proofs.case.push_rows.Given as goal

abbrev pub invariant-loop-k : goal.invariant-loop-k
invariant-loop-k l = record {
  ones : l.ones.items ≡ l.fn.ones.items
      ++ filter (column_of l.diagram.nodes (assigned l.path) l.column)
      (map D (range_with_len l.first l.k));
}
