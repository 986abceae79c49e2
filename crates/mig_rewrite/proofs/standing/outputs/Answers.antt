use Rattle.mig_rewrite.proofs.Common.{◌≡◌, ◌<◌, ◌+◌, ◌∙◌, ◌∷◌, [], length, length-append, ap, arith}
use Rattle.mig_rewrite.proofs.Common.{size_of, value, lit_at, each-more, complemented-node}
use Rattle.mig_rewrite.specs.Offers.{output_value, short_value, sketch_values}
use Rattle.mig_rewrite.proofs.Offering.{short-read, translated-value}
use Rattle.mig_rewrite.proofs.standing.outputs.Goals as goal

pub loop-j-preserved : goal.loop-j-preserved
loop-j-preserved c =
    let s = c.args.offer.now in
    let lits = c.args.lits.now in
    let j = c.loop-j.j in
    let old = c.loop-j.outs.items in
    let l = c.translated-l.result in
    let so = c.loop-j.invariant in
    let e = c.in_ok-keep.ensures in
    let long : length c.keep.new.items.items ≡ j + 1 =
    rw e (omega (arith, length-append old (l ∷ []), so.long)) in
    record {
      long = long;
      named = λ g named i b. each-more (λ _ x. x.node < size_of g) old c.keep.new.items.items l j
          so.long e (λ k d. so.named g named k (omega (arith, d, so.long)))
          (rw (
            c.translated-l.ensures,
            complemented-node c.literal.result.inverted
                (lit_at lits c.literal.result.node),
          ) (named c.literal.result.node c.literal.ensures.named))
          i (omega (arith, b, long));
      values = λ g bits stands i b. each-more (λ i x. value g bits x ≡ output_value s bits i) old
          c.keep.new.items.items l j so.long e (so.values g bits stands)
          (translated-value g bits lits c.literal.result l c.translated-l.ensures
          ∙ short-read g bits lits s s.count c.output.result c.literal.result stands
          c.literal.ensures.node c.literal.ensures.inverted
          ∙ ap (short_value (sketch_values s bits s.count)) c.output.ensures) i b;
    }
