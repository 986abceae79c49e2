use Rattle.optimise_job.proofs.Common.{◌≡◌, length}
use Rattle.optimise_job.proofs.search.searched_lines.Given as goal

-- a line for each entry so far
abbrev pub invariant-loop-k : goal.invariant-loop-k
invariant-loop-k l = length l.lines.items ≡ l.k
