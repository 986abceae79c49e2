use Rattle.object_steps.proofs.Common.{arith, true, false, None, Some, objects_of}
use Rattle.object_steps.proofs.Making.{tells, exists, is_full, too_large, no_rows, may_be_made}
use Rattle.object_steps.proofs.Making.{at_limit}
use Rattle.object_steps.proofs.listing.place.Goals as goal

pub returns-then-is_some-clause-refused : goal.returns-then-is_some-clause-refused
returns-then-is_some-clause-refused c = λ operations.
    exists c.args.g operations c.args.table.now.pairs c.args.name.now c.args.count c.args.n
    (tells c.args.table.now.pairs c.args.name.now c.look_up.result c.is_some.result true
    c.look_up.ensures c.is_some.ensures c.if-is_some.true)

pub returns-then-from-ge-OBJECTS_MAX-clause-refused :
    goal.returns-then-from-ge-OBJECTS_MAX-clause-refused
returns-then-from-ge-OBJECTS_MAX-clause-refused c = λ operations.
    is_full c.args.g operations c.args.table.now.pairs c.args.name.now c.args.count c.args.n
    (tells c.args.table.now.pairs c.args.name.now c.look_up.result c.is_some.result false
    c.look_up.ensures c.is_some.ensures c.if-is_some.false) (omega arith)

pub returns-then-from-elements_max-clause-refused :
    goal.returns-then-from-elements_max-clause-refused
returns-then-from-elements_max-clause-refused c = λ operations.
    too_large c.args.g operations c.args.table.now.pairs c.args.name.now c.args.count c.args.n
    (tells c.args.table.now.pairs c.args.name.now c.look_up.result c.is_some.result false
    c.look_up.ensures c.is_some.ensures c.if-is_some.false) (omega arith) (omega arith)

pub returns-in-Some-clause-new : goal.returns-in-Some-clause-new
returns-in-Some-clause-new c =
    tells c.args.table.now.pairs c.args.name.now c.look_up.result c.is_some.result false
    c.look_up.ensures c.is_some.ensures c.if-is_some.false

pub returns-in-Some-clause-base : goal.returns-in-Some-clause-base
returns-in-Some-clause-base c =
    at_limit c.args.g c.args.table.now.limit (objects_of c.args.table.now.pairs) c.args.n
    c.from-3.result (Some c.in-Some.base) c.requires.lies.limit c.from-3.ensures
    c.in-Some.ensures

pub returns-in-Some-clause-allowed : goal.returns-in-Some-clause-allowed
returns-in-Some-clause-allowed c = λ operations.
    may_be_made c.args.g operations c.args.table.now.pairs c.args.name.now c.args.count c.args.n
    c.in-Some.base (returns-in-Some-clause-new c) (omega arith) (omega arith)
    (returns-in-Some-clause-base c)

pub returns-in-None-clause-refused : goal.returns-in-None-clause-refused
returns-in-None-clause-refused c = λ operations.
    no_rows c.args.g operations c.args.table.now.pairs c.args.name.now c.args.count c.args.n
    (tells c.args.table.now.pairs c.args.name.now c.look_up.result c.is_some.result false
    c.look_up.ensures c.is_some.ensures c.if-is_some.false) (omega arith) (omega arith)
    (at_limit c.args.g c.args.table.now.limit (objects_of c.args.table.now.pairs) c.args.n
    c.from-3.result None c.requires.lies.limit c.from-3.ensures c.in-None.ensures)
