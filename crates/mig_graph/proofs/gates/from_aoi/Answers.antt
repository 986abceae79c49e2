use Rattle.std.proofs.Common.{◌≡◌, ◌<◌, [], ◌∷◌, ◌∙◌, ap, length, length-append, slice_index, arith}
use Rattle.std.proofs.lemmas.List.{get_or_default}
use Rattle.mig_graph.specs.Outputs.{lit_at}
use Rattle.mig_graph.proofs.OutputLaws.{each-more}
use Rattle.mig_graph.proofs.gates.from_aoi.Goals as goal

pub loop-o-preserved : goal.loop-o-preserved
loop-o-preserved c =
    let so = c.loop-o.invariant in
    let e = c.in_ok-keep.ensures in
    let whole = c.in_ok-whole.whole.outs.items in
    let places = c.args.g.now.outs.items in
    let k = c.loop-o.o-index in
    let x = c.index-l.result.now in
    let long : length whole ≡ length c.args.g.now.nodes.items = c.in_ok-whole.ensures.long
    ∙ ap length c.deref.ensures.value in
    let small : k < length places = rw c.deref-o-items.ensures.value at c.loop-o-test.true in
    let within : slice_index places k < length whole = rw long (c.requires.outs k small) in
    let is = rw c.deref-o-items.ensures.value at c.index-l.ensures in record {
      long = rw e (omega (arith, length-append c.loop-o.outs.items (x ∷ []), so.long));
      each = each-more (λ j l. l ≡ lit_at whole (slice_index places j)) c.loop-o.outs.items _ x k
          so.long e so.each (is ∙ get_or_default whole (slice_index places k) x _ within);
    }
