use Rattle.object_steps.proofs.Common.{◌≤◌, ◌∙◌, sym, Object, end_of, limit_of, IsObject, goes_past}
use Rattle.object_steps.proofs.Common.{is_absent, object_named}
use Rattle.object_steps.proofs.Found.{absent, absent_refused, named_holds, part_fits, part_low}
use Rattle.object_steps.proofs.Found.{past_refused, there}
use Rattle.object_steps.proofs.finding.found.Goals as goal

pub returns-in-None-clause-refused : goal.returns-in-None-clause-refused
returns-in-None-clause-refused c = λ rest.
    let pairs = c.args.table.now.pairs in
    let place = c.args.place.now in
    absent_refused (is_absent pairs place.name) (goes_past pairs place) rest
    (absent pairs place.name c.in-None.ensures)

pub returns-then-goes_past-clause-refused : goal.returns-then-goes_past-clause-refused
returns-then-goes_past-clause-refused c = λ rest.
    let pairs = c.args.table.now.pairs in
    let place = c.args.place.now in
    past_refused (is_absent pairs place.name) (goes_past pairs place) rest
    (there pairs place.name c.in-Some.field-0 c.in-Some.ensures)
    (sym c.goes_past.ensures ∙ c.if-goes_past.true)

pub returns-else-goes_past-clause-there : goal.returns-else-goes_past-clause-there
returns-else-goes_past-clause-there c =
    there c.args.table.now.pairs c.args.place.now.name c.in-Some.field-0 c.in-Some.ensures

pub returns-else-goes_past-clause-fits : goal.returns-else-goes_past-clause-fits
returns-else-goes_past-clause-fits c =
    let pairs = c.args.table.now.pairs in
    let place = c.args.place.now in
    rw c.rows_of.ensures (part_fits c.args.g (object_named pairs place.name) place.part
    (sym c.goes_past.ensures ∙ c.if-goes_past.false)
    (named_holds (IsObject c.args.g) pairs place.name c.in-Some.field-0 c.in-Some.ensures
    c.requires.lies.objects))

pub returns-else-goes_past-clause-rows : goal.returns-else-goes_past-clause-rows
returns-else-goes_past-clause-rows c =
    let pairs = c.args.table.now.pairs in
    let place = c.args.place.now in
    rw c.rows_of.ensures (part_low (limit_of c.args.g) (object_named pairs place.name) place.part
    (sym c.goes_past.ensures ∙ c.if-goes_past.false)
    (named_holds (λ (o : Object). end_of o ≤ limit_of c.args.g) pairs place.name
    c.in-Some.field-0 c.in-Some.ensures c.requires.lies.listed.within))
