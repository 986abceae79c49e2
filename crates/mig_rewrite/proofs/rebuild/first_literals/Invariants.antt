use Rattle.mig_rewrite.proofs.Common.{◌≡◌, ◌<◌, ℕ, length, lit_at}
use Rattle.mig_rewrite.specs.Merge.{straight}
use Rattle.mig_rewrite.proofs.rebuild.first_literals.Given as goal

-- the literals so far
abbrev pub invariant-loop-k : goal.invariant-loop-k
invariant-loop-k l = record {
  long : length l.lits.items ≡ l.k;
  each : (k : ℕ) → k < l.k → lit_at l.lits.items k ≡ straight k;
}
