use Rattle.std.proofs.Common.{◌≡◌, ◌+◌, ◌*◌, [], ◌∷◌, ◌++◌, length, take, arith, sym, subst}
use Rattle.op_text.specs.Language.{term}
use Rattle.op_text.specs.Meaning.{term_bit}
use Rattle.op_text.specs.Scratch.{term_weight}
use Rattle.aoi_graph.specs.Blocks.{after_lets, all_weights, all_parts, parts}
use Rattle.aoi_graph.specs.Making.{IsEnv}
use Rattle.aoi_graph.proofs.Growing.{grows-then, grows-length}
use Rattle.aoi_graph.proofs.Lets.{lets-and-one, take-one-more, weights-more, parts-more, below-more}
use Rattle.aoi_graph.proofs.Lets.{env-more}
use Rattle.aoi_graph.proofs.block.let_nodes.Goals as goal

pub loop-a-preserved : goal.loop-a-preserved
loop-a-preserved c =
    let so = c.loop-a.invariant in
    let lets = c.args.lets.now in
    let i = c.loop-a.a-index in
    let a = c.a-item.result in
    let xs = take i lets in
    let old = c.loop-a.nodes.items in
    let new = c.expression.new.nodes.items in
    let w = weights-more xs a in
    let p = parts-more xs a in
    let e : take (i + 1) lets ≡ xs ++ a ∷ [] =
    take-one-more lets a i c.loop-a-test.true c.a-item.is in
    let grows = c.in_ok-k.ensures.grows in
    let same = rw c.copied.ensures at c.in_ok-note.ensures.same in
    let others = rw c.copied.ensures at c.in_ok-note.ensures.others in
    rw e (record {
      grows = grows-then c.args.nodes.now.items old new (all_weights xs) (5 * all_parts xs)
          (term_weight (term a.value)) (5 * parts (term a.value)) _ _ so.grows grows (omega arith)
          (omega arith);
      known = below-more c.loop-a.known c.note.new.known (length old) (length new) a.name
          c.in_ok-k.k so.known (grows-length old new _ _ grows) c.in_ok-k.ensures.named same others;
      value = λ bits env h. let before = so.value bits env h in
          subst (IsEnv new c.note.new.known c.args.inputs.now bits) (sym (lets-and-one env xs a))
          (env-more old new _ _ c.loop-a.known c.note.new.known c.args.inputs.now bits
          (after_lets env xs) a.name c.in_ok-k.k (term_bit (after_lets env xs) (term a.value))
          grows so.known same others (c.in_ok-k.ensures.value bits (after_lets env xs) before)
          before);
      held = λ o. c.in_ok-k.ensures.held (so.held o);
    })

pub expression-requires-clause-known : goal.expression-requires-clause-known
expression-requires-clause-known c = c.loop-a.invariant.known

pub expression-requires-clause-lower : goal.expression-requires-clause-lower
expression-requires-clause-lower c = c.loop-a.invariant.grows.lower
