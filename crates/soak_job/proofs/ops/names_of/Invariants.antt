use Rattle.soak_job.proofs.Common.{◌≡◌, take}
use Rattle.soak_job.specs.Cases.{source_names}
use Rattle.soak_job.proofs.ops.names_of.Given as goal

abbrev pub invariant-loop-k : goal.invariant-loop-k
invariant-loop-k l = l.names.items ≡ take l.k source_names
