use Rattle.mig_rewrite.proofs.Common.{◌≡◌, ◌<◌, ℕ, length, complement_if, lit_at}
use Rattle.mig_rewrite.proofs.rebuild.translated_all.Given as goal

-- the literals so far
abbrev pub invariant-loop-l : goal.invariant-loop-l
invariant-loop-l l = record {
  long : length l.made.items ≡ l.l-index;
  each : (k : ℕ) → k < l.l-index → lit_at l.made.items k
      ≡ complement_if (lit_at l.old k).inverted (lit_at l.lits (lit_at l.old k).node);
}
