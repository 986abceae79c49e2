use Rattle.uprog_gen.proofs.Common.{◌∙◌, ◌++◌, ◌∷◌, [], map, sym, ap, append_assoc, map-append}
use Rattle.uprog_gen.proofs.Common.{statement, flow_of}
use Rattle.std.proofs.lemmas.Iterator.{YieldsList-from_slice, YieldsList-from_zip}
use Rattle.std.proofs.lemmas.Iterator.Adapters.{YieldsList-from_vec}
use Rattle.std.proofs.lemmas.Iterator.Consumers.{YieldsList-at, YieldsList-end}
use Rattle.uprog_gen.specs.Graphs.{graphed_of, statement_graph}
use Rattle.uprog_gen.proofs.Meaning.Taken.{pair_graphs, pairs-append, pairs_are}
use Rattle.uprog_gen.proofs.graphs.take_graphs.Goals as goal

pub loop-s-preserved : goal.loop-s-preserved
loop-s-preserved c =
    let old = map graphed_of c.args.graphs.now.items in
    let seen = map (λ p. (p.0.now, p.1)) c.loop-s.yielded in
    let own = statement_graph (statement c.in-Some.s.now) (flow_of c.in-Some.flow) in
    c.in_ok-take_statement.ensures
    ∙ ap (λ l. l ++ own) c.loop-s.invariant
    ∙ append_assoc old (pair_graphs seen) own
    ∙ ap (λ l. old ++ l) (sym (pairs-append seen (c.in-Some.s.now, c.in-Some.flow)))
    ∙ ap (λ l. old ++ pair_graphs l) (sym (map-append (λ p. (p.0.now, p.1)) c.loop-s.yielded
    ((c.in-Some.s, c.in-Some.flow) ∷ [])))

pub returns : goal.returns
returns c =
    let body = c.args.op.now.body.items in
    let flows = c.args.lowered.flows in
    let first = YieldsList-at c.zip-s-items.ensures.first
    (YieldsList-from_slice body (c.iter.ensures.rest ∙ c.deref.ensures.value)) in
    let second = YieldsList-from_vec flows.items c.zip-s-items.ensures.second.0
    (c.zip-s-items.ensures.second.1 ∙ flows.ok.0) in
    let road = YieldsList-at c.into_iter-s-iterator.ensures.into_iter_gives
    (YieldsList-from_zip first second) in
    let t = YieldsList-end road c.loop-s.yielded c.loop-s.s-iterator c.loop-s.yielded_by
    c.next.result c.next.new.self c.in-None.is c.next.ensures.steps in
    c.loop-s.invariant ∙ ap (λ l. map graphed_of c.args.graphs.now.items ++ l) (ap pair_graphs t.0
    ∙ pairs_are body flows.items)
