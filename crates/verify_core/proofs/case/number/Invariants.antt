use Rattle.verify_core.proofs.Common.{◌≡◌, ◌+◌, range_with_len, D, assigned, column_of, ◌-◌, ◌≤◌}
use Rattle.verify_core.proofs.Common.{map}
use Rattle.bit_rows.specs.Bits.{value}
use Rattle.verify_core.proofs.case.number.Given as goal

-- the number of the rows that were read, the highest first
abbrev pub invariant-loop-k : goal.invariant-loop-k
invariant-loop-k l = record {
  within : l.k ≤ l.n;
  total : l.total ≡ value (map (λ row. column_of l.diagram.nodes (assigned l.path) l.column (D row))
      (range_with_len (l.base + l.k) (l.n - l.k)));
}
