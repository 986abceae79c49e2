use Rattle.mig_rewrite.proofs.Common.{◌≡◌, ◌<◌, ℕ, Bool, length, Graph, value, lit_at, AreNamed}
use Rattle.mig_rewrite.specs.Offers.{Stands, output_value}
use Rattle.mig_rewrite.proofs.standing.outputs.Given as goal

-- the outputs so far name nodes, and have their values
abbrev pub invariant-loop-j : goal.invariant-loop-j
invariant-loop-j l = record {
  long : length l.outs.items ≡ l.j;
  named : (g : Graph) → AreNamed g l.lits → AreNamed g l.outs.items;
  values : (g : Graph) (bits : ℕ → Bool) → Stands g bits l.lits l.offer l.offer.count
      → (i : ℕ) → i < l.j → value g bits (lit_at l.outs.items i) ≡ output_value l.offer bits i;
}
