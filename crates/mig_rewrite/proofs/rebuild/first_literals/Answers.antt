use Rattle.mig_rewrite.proofs.Common.{◌≡◌, ◌∷◌, [], length-append, arith, refl, each-more}
use Rattle.mig_rewrite.specs.Merge.{straight}
use Rattle.mig_rewrite.proofs.rebuild.first_literals.Goals as goal

pub loop-k-preserved : goal.loop-k-preserved
loop-k-preserved c = record {
  long = rw c.in_ok-keep.ensures (omega (
    arith,
    length-append c.loop-k.lits.items (straight c.loop-k.k ∷ []),
    c.loop-k.invariant.long,
  ));
  each = each-more (λ k x. x ≡ straight k) c.loop-k.lits.items _ (straight c.loop-k.k) c.loop-k.k
      c.loop-k.invariant.long c.in_ok-keep.ensures c.loop-k.invariant.each refl;
}
