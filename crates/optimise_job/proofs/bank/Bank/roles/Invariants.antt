use Rattle.optimise_job.proofs.Common.{◌≡◌, length}
use Rattle.optimise_job.proofs.bank.Bank.roles.Given as goal

-- a span for each source so far
abbrev pub invariant-loop-kind : goal.invariant-loop-kind
invariant-loop-kind l = length l.sources.items ≡ l.kind-index
