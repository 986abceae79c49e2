use Rattle.soak_job.proofs.Common.{◌≡◌, ◌≤◌, ◌+◌, ◌*◌, ◌++◌, length, drop}
use Rattle.soak_job.proofs.Counting.{cases_in}
use Rattle.soak_job.proofs.cases.add_rows.Given as goal

-- the cases so far, and those of the other rows
abbrev pub invariant-loop-row : goal.invariant-loop-row
invariant-loop-row l = record {
  cases : l.initial.cases.items ++ cases_in (λ r. r.1.op) l.rows
      ≡ l.cases.items ++ cases_in (λ r. r.1.op) (drop l.row-index l.rows);
  many : length l.cases.items ≤ length l.initial.cases.items + 3 * l.row-index;
}
