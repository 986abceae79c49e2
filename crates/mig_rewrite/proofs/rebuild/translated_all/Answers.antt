use Rattle.mig_rewrite.proofs.Common.{◌≡◌, ◌∷◌, [], length-append, arith, complement_if, lit_at}
use Rattle.mig_rewrite.proofs.Common.{each-more}
use Rattle.mig_rewrite.proofs.rebuild.translated_all.Goals as goal

pub loop-l-preserved : goal.loop-l-preserved
loop-l-preserved c = record {
  long = rw c.in_ok-keep.ensures (omega (
    arith,
    length-append c.loop-l.made.items (c.translated-new.result ∷ []),
    c.loop-l.invariant.long,
  ));
  each = each-more (λ k x. x ≡ complement_if (lit_at c.args.old.now k).inverted
      (lit_at c.args.lits.now (lit_at c.args.old.now k).node)) c.loop-l.made.items _
      c.translated-new.result c.loop-l.l-index c.loop-l.invariant.long c.in_ok-keep.ensures
      c.loop-l.invariant.each c.translated-new.ensures;
}
