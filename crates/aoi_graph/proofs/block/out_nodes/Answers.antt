use Rattle.std.proofs.Common.{◌≡◌, ◌+◌, ◌*◌, ◌<◌, [], ◌∷◌, ◌++◌, length, length-append, take, arith}
use Rattle.std.proofs.Common.{ap, ◌∙◌, slice_get, slice_index, Some}
use Rattle.op_text.specs.declared.tree.Assign.{Assign}
use Rattle.aoi_graph.specs.Gates.{aoi_values}
use Rattle.op_text.specs.Language.{term}
use Rattle.op_text.specs.Meaning.{term_bit}
use Rattle.op_text.specs.Scratch.{term_weight}
use Rattle.aoi_graph.specs.Blocks.{all_weights, all_parts, parts}
use Rattle.aoi_graph.proofs.Growing.{grows-then, grows-length, grows-keeps, env-stays}
use Rattle.aoi_graph.proofs.Lets.{take-one-more, weights-more, parts-more}
use Rattle.aoi_graph.proofs.Outs.{each-more, got}
use Rattle.aoi_graph.proofs.block.out_nodes.Goals as goal

pub loop-a-preserved : goal.loop-a-preserved
loop-a-preserved c =
    let so = c.loop-a.invariant in
    let all = c.args.assigns.now in
    let i = c.loop-a.a-index in
    let a = c.a-item.result in
    let xs = take i all in
    let start = c.args.nodes.now.items in
    let old = c.loop-a.nodes.items in
    let new = c.expression.new.nodes.items in
    let outs = c.loop-a.outs.items in
    let w = weights-more xs a in
    let p = parts-more xs a in
    let k = c.in_ok-k.k in
    let out = c.in_ok-keep.ensures in
    let e : take (i + 1) all ≡ xs ++ a ∷ [] =
    take-one-more all a i c.loop-a-test.true c.a-item.is in
    let grows = c.in_ok-k.ensures.grows in
    let longer = grows-length old new _ _ grows in
    record {
      grows = rw e (grows-then start old new (all_weights xs) (5 * all_parts xs)
          (term_weight (term a.value)) (5 * parts (term a.value)) _ _ so.grows grows (omega arith)
          (omega arith));
      long = rw out (omega (arith, length-append outs (k ∷ []), so.long));
      named = each-more (λ j n. n < length new) outs _ k i so.long out (λ j b.
          omega (arith, so.named j b, longer)) c.in_ok-k.ensures.named;
      value = λ bits env h j x b s. each-more (λ j n. (x : Assign) → slice_get all j ≡ Some x
          → aoi_values new bits n ≡ term_bit env (term x.value)) outs _ k i so.long out
          (λ j b x s. grows-keeps old new _ _ bits (slice_index outs j) grows (so.named j b)
          ∙ so.value bits env h j x b s)
          (λ x s. c.in_ok-k.ensures.value bits env
          (env-stays start old _ _ c.args.known.now c.args.inputs.now bits env so.grows
          c.requires.known h)
          ∙ ap (λ (y : Assign). term_bit env (term y.value)) (c.a-item.is ∙ got all i a x s)) j b x
          s;
      held = λ o. c.in_ok-k.ensures.held (so.held o);
    }

pub expression-requires-clause-known : goal.expression-requires-clause-known
expression-requires-clause-known c = λ name k e.
    let before = c.requires.known name k e in
    let longer = grows-length c.args.nodes.now.items c.loop-a.nodes.items _ _
    c.loop-a.invariant.grows in
    omega arith
