use Rattle.std.proofs.Common.{◌∙◌, ◌++◌, ◌∷◌, [], ℕ, List, map, flat_map, sym, ap}
use Rattle.std.proofs.lemmas.List.{map-append}
use Rattle.std.proofs.lemmas.Iterator.{YieldsList-from_slice, YieldsList-from_zip}
use Rattle.std.proofs.lemmas.Iterator.Consumers.{YieldsList-at, YieldsList-end}
use Rattle.op_text.specs.declared.tree.Op.{Op}
use Rattle.op_text.specs.Language.{operation}
use Rattle.verify_job.specs.declared.finding.OpFindings.{OpFindings}
use Rattle.verify_job.specs.Report.{op_lines}
use Rattle.uprog_code.proofs.Written.{one_more, zip_read}
use Rattle.verify_job.proofs.text.put_lines.Goals as goal

pub loop-op-preserved : goal.loop-op-preserved
loop-op-preserved c =
    let text : Op × OpFindings → List ℕ = λ p. op_lines c.args.single (operation p.0) p.1.at.items in
    one_more text (map (λ p. (p.0.now, p.1.now)) c.loop-op.yielded)
    (c.in-Some.op.now, c.in-Some.findings.now) c.args.out.now.items c.loop-op.out.items
    c.put_op.new.out.items (rw c.as_slice.ensures.value at c.in_ok-put_op.ensures) c.loop-op.invariant
    ∙ ap (λ l. c.args.out.now.items ++ flat_map text l)
    (sym (map-append (λ p. (p.0.now, p.1.now)) c.loop-op.yielded
    ((c.in-Some.op, c.in-Some.findings) ∷ [])))

pub returns : goal.returns
returns c =
    let text : Op × OpFindings → List ℕ = λ p. op_lines c.args.single (operation p.0) p.1.at.items in
    let first = YieldsList-at c.zip-op-items.ensures.first
    (YieldsList-from_slice c.args.ops.now c.iter.ensures.rest) in
    let second = YieldsList-from_slice c.args.found.now c.zip-op-items.ensures.second.0 in
    let road = YieldsList-at c.into_iter-op-iterator.ensures.into_iter_gives
    (YieldsList-from_zip first second) in
    let t = YieldsList-end road c.loop-op.yielded c.loop-op.op-iterator
    c.loop-op.yielded_by c.next.result c.next.new.self c.in-None.is c.next.ensures.steps in
    c.loop-op.invariant ∙ ap (λ l. c.args.out.now.items ++ flat_map text l) t.0
    ∙ ap (λ l. c.args.out.now.items ++ l) (zip_read operation (λ op f. op_lines c.args.single op f.at.items) c.args.ops.now c.args.found.now)
