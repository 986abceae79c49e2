use Rattle.optimise_job.proofs.Common.{◌≡◌, take}
use Rattle.optimise_job.proofs.copied.code_of.Given as goal

-- the first instructions
abbrev pub invariant-loop-at : goal.invariant-loop-at
invariant-loop-at g l = l.code.items ≡ take l.at (g.F.Fetch.code l.entry)
