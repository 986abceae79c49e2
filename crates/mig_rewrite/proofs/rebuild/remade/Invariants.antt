use Rattle.mig_rewrite.proofs.Common.{◌≡◌, ◌<◌, ◌≤◌, ◌+◌, ℕ, Bool, true, length, None, value}
use Rattle.mig_rewrite.proofs.Common.{values, lit_at, AreNamed}
use Rattle.mig_rewrite.specs.Plan.{is_marked}
use Rattle.mig_rewrite.proofs.Below.{spared_below, merged_below}
use Rattle.mig_rewrite.proofs.rebuild.remade.Given as goal

-- the marked nodes so far have their values
abbrev pub invariant-loop-k : goal.invariant-loop-k
invariant-loop-k l = record {
  inputs : l.mig.inputs ≡ l.m.mig.inputs;
  long : length l.lits.items ≡ l.k;
  named : AreNamed l.mig l.lits.items;
  values : (bits : ℕ → Bool) (j : ℕ) → j < l.k → is_marked l.marks.items j ≡ true
      → value l.mig bits (lit_at l.lits.items j) ≡ values l.m.mig bits j;
  count : l.inputs + 1 + length l.mig.nodes + spared_below l.merge l.k
      ≤ l.k + merged_below l.merge l.k;
  marked : l.merge ≡ None → l.inputs + 1 + length l.mig.nodes ≡ l.k
      → (j : ℕ) → l.inputs < j → j < l.k → is_marked l.marks.items j ≡ true;
}
