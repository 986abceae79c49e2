use Rattle.optimise_job.proofs.Common.{◌∙◌, ◌++◌, ◌∷◌, [], ℕ, List, map, flat_map, sym, ap}
use Rattle.optimise_job.proofs.Common.{map-append, EntryCode, microprogram_of}
use Rattle.std.proofs.lemmas.Iterator.{YieldsList-from_slice, YieldsList-from_zip}
use Rattle.std.proofs.lemmas.Iterator.Consumers.{YieldsList-at, YieldsList-end}
use Rattle.optimise_job.specs.declared.offer.Outcome.{Outcome}
use Rattle.optimise_job.specs.Report.{entry_line}
use Rattle.uprog_code.proofs.Written.{one_more, zip_read}
use Rattle.optimise_job.proofs.text.put_entries.Goals as goal

pub loop-entry-preserved : goal.loop-entry-preserved
loop-entry-preserved c =
    let text : EntryCode × Outcome → List ℕ = λ p. entry_line (microprogram_of p.0) p.1 in
    one_more text (map (λ p. (p.0.now, p.1.now)) c.loop-entry.yielded)
    (c.in-Some.entry.now, c.in-Some.outcome.now) c.args.out.now.items c.loop-entry.out.items
    c.put_entry.new.out.items c.in_ok-put_entry.ensures c.loop-entry.invariant
    ∙ ap (λ l. c.args.out.now.items ++ flat_map text l)
    (sym (map-append (λ p. (p.0.now, p.1.now)) c.loop-entry.yielded
    ((c.in-Some.entry, c.in-Some.outcome) ∷ [])))

pub returns : goal.returns
returns c =
    let text : EntryCode × Outcome → List ℕ = λ p. entry_line (microprogram_of p.0) p.1 in
    let first = YieldsList-at c.zip-entry-items.ensures.first
    (YieldsList-from_slice c.args.entries.now c.iter.ensures.rest) in
    let second = YieldsList-from_slice c.args.outcomes.now c.zip-entry-items.ensures.second.0 in
    let road = YieldsList-at c.into_iter-entry-iterator.ensures.into_iter_gives
    (YieldsList-from_zip first second) in
    let t = YieldsList-end road c.loop-entry.yielded c.loop-entry.entry-iterator
    c.loop-entry.yielded_by c.next.result c.next.new.self c.in-None.is c.next.ensures.steps in
    c.loop-entry.invariant ∙ ap (λ l. c.args.out.now.items ++ flat_map text l) t.0
    ∙ ap (λ l. c.args.out.now.items ++ l)
    (zip_read microprogram_of (λ e x. entry_line e x) c.args.entries.now c.args.outcomes.now)
