use Rattle.std.proofs.Common.{◌≡◌, ◌++◌, drop}
use Rattle.verify_job.specs.Report.{numbers_text}
use Rattle.verify_job.proofs.text.put_numbers.Given as goal

-- what was written, with the numbers that are left, is all
abbrev pub invariant-loop-number : goal.invariant-loop-number
invariant-loop-number l = l.out.items ++ numbers_text (drop l.number-index l.numbers)
    ≡ l.initial.out.items ++ numbers_text l.numbers
