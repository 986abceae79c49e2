use Rattle.object_steps.proofs.Common.{◌∙◌, ap, refl, Listing}
use Rattle.object_steps.proofs.Lying.{lies_without}
use Rattle.object_steps.proofs.Found.{there, absent, has_none, without_absent}
use Rattle.object_steps.proofs.listing.free.Goals as goal

pub returns-in-Some-clause-reply : goal.returns-in-Some-clause-reply
returns-in-Some-clause-reply c = λ g operations.
    rw (there c.args.table.now.pairs c.args.name.now c.in-Some.field-0 c.in-Some.ensures.found) refl

pub returns-in-Some-clause-table : goal.returns-in-Some-clause-table
returns-in-Some-clause-table c = λ g operations.
    rw (there c.args.table.now.pairs c.args.name.now c.in-Some.field-0 c.in-Some.ensures.found)
    (ap (λ (t : Listing). t.pairs) c.remove.ensures.rest)

pub returns-in-None-clause-reply : goal.returns-in-None-clause-reply
returns-in-None-clause-reply c = λ g operations.
    rw (absent c.args.table.now.pairs c.args.name.now c.in-None.ensures.found) refl

pub returns-in-None-clause-table : goal.returns-in-None-clause-table
returns-in-None-clause-table c = λ g operations.
    rw (absent c.args.table.now.pairs c.args.name.now c.in-None.ensures.found)
    (ap (λ (t : Listing). t.pairs) c.remove.ensures.rest
    ∙ without_absent c.args.table.now.pairs c.args.name.now
    (has_none c.args.table.now.pairs c.args.name.now c.in-None.ensures.found))

pub returns-in-Some-clause-lies : goal.returns-in-Some-clause-lies
returns-in-Some-clause-lies c = λ g lies.
    lies_without g c.args.table.now c.remove.new.self c.args.name.now c.remove.ensures.rest lies

pub returns-in-None-clause-lies : goal.returns-in-None-clause-lies
returns-in-None-clause-lies c = λ g lies.
    lies_without g c.args.table.now c.remove.new.self c.args.name.now c.remove.ensures.rest lies
