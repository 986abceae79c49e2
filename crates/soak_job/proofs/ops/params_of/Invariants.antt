use Rattle.soak_job.proofs.Common.{◌≡◌, take}
use Rattle.soak_job.specs.Cases.{params_of, source_names}
use Rattle.soak_job.proofs.ops.params_of.Given as goal

abbrev pub invariant-loop-k : goal.invariant-loop-k
invariant-loop-k l = l.params.items ≡ params_of (take l.k l.kinds) source_names
