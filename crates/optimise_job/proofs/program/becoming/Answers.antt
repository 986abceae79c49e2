use Rattle.optimise_job.proofs.Common.{◌≡◌, ℕ, ◌<◌, ◌∙◌, ap, subst, length, List, map, bytes_eq}
use Rattle.optimise_job.proofs.Common.{position, slice_index_or, EntryCode, Microprogram}
use Rattle.optimise_job.proofs.Common.{microprogram_of, EntryDoes, ImplementsAll, TextOp}
use Rattle.optimise_job.specs.declared.offer.Offered.{Offered}
use Rattle.optimise_job.specs.Outcomes.{IsOfferOf, IsOutcome}
use Rattle.uprog_code.proofs.Found.{entry_there}
use Rattle.optimise_job.proofs.Found.{none_named, op_there_named}
use Rattle.optimise_job.proofs.Offers.{if_made, outcome_none, outcome_some}
use Rattle.optimise_job.proofs.program.becoming.Goals as goal

pub with_line-requires-clause-made_legal : goal.with_line-requires-clause-made_legal
with_line-requires-clause-made_legal g c =
    (entry_there c.args.made.now.entries.items c.as_slice-entries.result.now c.requires.implements.0
    c.in-Some.k c.index-entries-k.result c.as_slice-entries.ensures.value c.requires.implements.1
    c.requires.made_legal c.in-Some.ensures.within c.index-entries-k.is).0

pub with_line-requires-clause-does : goal.with_line-requires-clause-does
with_line-requires-clause-does g c =
    (entry_there c.args.made.now.entries.items c.as_slice-entries.result.now c.requires.implements.0
    c.in-Some.k c.index-entries-k.result c.as_slice-entries.ensures.value c.requires.implements.1
    c.requires.made_legal c.in-Some.ensures.within c.index-entries-k.is).1

pub returns-in_ok-copied-in-None-clause-outcome : goal.returns-in_ok-copied-in-None-clause-outcome
returns-in_ok-copied-in-None-clause-outcome g c = λ ops does.
    let items = c.args.made.now.entries.items in
    let same = c.as_slice-entries.ensures.value in
    let e : Microprogram = record {
      name = g.F.Fetch.name c.args.entry.now;
      shape = g.F.Fetch.shape c.args.entry.now;
      code = g.F.Fetch.code c.args.entry.now;
    } in
    let name = c.head.ensures.name in
    let none = c.in-None.ensures.value
    ∙ ap (λ (es : List EntryCode). position (λ (y : EntryCode). bytes_eq y.head.name
    c.head.result.name) es) same
    ∙ ap (λ (w : List ℕ). position (λ (y : EntryCode). bytes_eq y.head.name w)
    items) name in
    outcome_none c.args.n c.args.room ops e c.args.line.now
    (microprogram_of c.in_ok-copied-in-None.field-0)
    (none_named items (g.F.Fetch.name c.args.entry.now) ops does none)
    c.in_ok-copied-in-None.ensures

pub returns-in-Some-clause-outcome : goal.returns-in-Some-clause-outcome
returns-in-Some-clause-outcome g c =
    let items = c.args.made.now.entries.items in
    let same = c.as_slice-entries.ensures.value in
    let k = c.in-Some.k in
    let y = c.index-entries-k.result in
    let lt = subst (λ (es : List EntryCode). k < length es) same c.in-Some.ensures.within in
    let is = subst (λ (es : List EntryCode). y ≡ slice_index_or es k y) same
    c.index-entries-k.is in
    let own = g.F.Fetch.name c.args.entry.now in
    let e : Microprogram = record {
      name = own;
      shape = g.F.Fetch.shape c.args.entry.now;
      code = g.F.Fetch.code c.args.entry.now;
    } in
    let some = c.in-Some.ensures.value
    ∙ ap (λ (es : List EntryCode). position (λ (z : EntryCode). bytes_eq z.head.name
    c.head.result.name) es) same
    ∙ ap (λ (w : List ℕ). position (λ (z : EntryCode). bytes_eq z.head.name w) items)
    c.head.ensures.name in
    if_made c.with_line.result
    (λ (x : Offered). (o : TextOp) → EntryDoes (microprogram_of y) o
    → IsOfferOf c.args.n c.args.room o e c.args.line.now (microprogram_of x.entry) x.outcome)
    (λ (x : Offered). (ops : List TextOp) → ImplementsAll (map microprogram_of items) ops
    → IsOutcome c.args.n c.args.room ops e c.args.line.now (microprogram_of x.entry) x.outcome)
    (λ x offer ops does.
    let found = op_there_named items own ops k y does some lt is in
    outcome_some c.args.n c.args.room ops found.0 e c.args.line.now (microprogram_of x.entry)
    x.outcome found.1 (offer found.0 found.2)) c.with_line.ensures.offer
