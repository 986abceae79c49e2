use Rattle.std.proofs.Common.{◌∙◌, ◌++◌, ◌∷◌, [], ℕ, List, map, flat_map, sym, ap}
use Rattle.std.proofs.lemmas.List.{map-append}
use Rattle.std.proofs.lemmas.Iterator.{YieldsList-from_slice, YieldsList-from_zip}
use Rattle.std.proofs.lemmas.Iterator.Consumers.{YieldsList-at, YieldsList-end}
use Rattle.op_text.specs.declared.tree.Param.{Param}
use Rattle.verify_job.specs.Report.{source_text}
use Rattle.uprog_code.proofs.Written.{one_more}
use Rattle.verify_job.proofs.text.put_sources.Goals as goal

pub loop-param-preserved : goal.loop-param-preserved
loop-param-preserved c =
    let text : Param × ℕ → List ℕ = λ p. source_text p.0 p.1 in
    one_more text (map (λ p. (p.0.now, p.1.now)) c.loop-param.yielded)
    (c.in-Some.param.now, c.in-Some.number.now) c.args.out.now.items c.loop-param.out.items
    c.put_source.new.out.items c.in_ok-put_source.ensures c.loop-param.invariant
    ∙ ap (λ l. c.args.out.now.items ++ flat_map text l)
    (sym (map-append (λ p. (p.0.now, p.1.now)) c.loop-param.yielded
    ((c.in-Some.param, c.in-Some.number) ∷ [])))

pub returns : goal.returns
returns c =
    let text : Param × ℕ → List ℕ = λ p. source_text p.0 p.1 in
    let first = YieldsList-at c.zip-param-items.ensures.first
    (YieldsList-from_slice c.args.params.now c.iter.ensures.rest) in
    let second = YieldsList-from_slice c.args.numbers.now c.zip-param-items.ensures.second.0 in
    let road = YieldsList-at c.into_iter-param-iterator.ensures.into_iter_gives
    (YieldsList-from_zip first second) in
    let t = YieldsList-end road c.loop-param.yielded c.loop-param.param-iterator
    c.loop-param.yielded_by c.next.result c.next.new.self c.in-None.is c.next.ensures.steps in
    c.loop-param.invariant ∙ ap (λ l. c.args.out.now.items ++ flat_map text l) t.0
