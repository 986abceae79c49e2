use Rattle.simdram_cli.proofs.Common.{◌≡◌, ◌++◌, ◌-◌, range_with_len}
use Rattle.simdram_cli.proofs.widths.push_span.Given as goal

-- the numbers of the span before the next one were appended
abbrev pub invariant-loop-n : goal.invariant-loop-n
invariant-loop-n l = l.widths.items
    ≡ l.initial.widths.items ++ range_with_len l.first (l.n - l.first)
