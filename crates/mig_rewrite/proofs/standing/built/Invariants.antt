use Rattle.mig_rewrite.proofs.Common.{◌≡◌, ◌<◌, ◌≤◌, ℕ, Bool, length, AreNamed}
use Rattle.mig_rewrite.specs.Offers.{Stands}
use Rattle.mig_rewrite.proofs.standing.built.Given as goal

-- the literals so far name nodes, of which there are few, and have the sketch's values
abbrev pub invariant-loop-k : goal.invariant-loop-k
invariant-loop-k l = record {
  inputs : l.mig.inputs ≡ l.inputs;
  some : 0 < length l.lits.items;
  named : AreNamed l.mig l.lits.items;
  few : length l.mig.nodes ≤ l.k;
  stands : (bits : ℕ → Bool) → Stands l.mig bits l.lits.items l.offer l.k;
}
