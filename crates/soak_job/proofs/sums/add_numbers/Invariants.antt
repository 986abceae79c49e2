use Rattle.soak_job.proofs.Common.{◌≡◌, ◌+◌, ◌%◌, ◌^◌, range_with_len, stage_number, sum_by}
use Rattle.soak_job.proofs.sums.add_numbers.Given as goal

-- the sum so far
abbrev pub invariant-loop-column : goal.invariant-loop-column
invariant-loop-column l =
    l.all ≡ (l.fn.sum + sum_by (stage_number 2 l.fn.n l.fn.stage) (range_with_len 0 l.column)) % 2 ^
    64
