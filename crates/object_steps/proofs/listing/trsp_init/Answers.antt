use Rattle.object_steps.proofs.Common.{arith, refl, Kept-same, Object, limit_of, objects_of, Init}
use Rattle.object_steps.proofs.Common.{refusal, counts_for, own_events}
use Rattle.machine_model.specs.Steps.{tabled}
use Rattle.object_steps.proofs.Done.{did_nothing, found_free, found_within, replies_refused}
use Rattle.object_steps.proofs.Done.{same_after}
use Rattle.object_steps.proofs.Lying.{lies_with}
use Rattle.object_steps.proofs.listing.trsp_init.Goals as goal

pub returns-in-Err-clause-borrow : goal.returns-in-Err-clause-borrow
returns-in-Err-clause-borrow g c = refl

pub returns-in-Err-clause-kept : goal.returns-in-Err-clause-kept
returns-in-Err-clause-kept g c = Kept-same (g.D.Dram.view c.args.dram.now)

pub returns-in-Err-clause-lies : goal.returns-in-Err-clause-lies
returns-in-Err-clause-lies g c = c.requires.lies

pub returns-in_err-fill_object-in-Ok-clause-borrow :
    goal.returns-in_err-fill_object-in-Ok-clause-borrow
returns-in_err-fill_object-in-Ok-clause-borrow g c = c.fill_object.ensures.borrow

pub returns-in_err-fill_object-in-Ok-clause-kept : goal.returns-in_err-fill_object-in-Ok-clause-kept
returns-in_err-fill_object-in-Ok-clause-kept g c = c.fill_object.ensures.kept

pub returns-in_ok-fill_object-in-Ok-clause-borrow :
    goal.returns-in_ok-fill_object-in-Ok-clause-borrow
returns-in_ok-fill_object-in-Ok-clause-borrow g c = c.fill_object.ensures.borrow

pub returns-in_ok-fill_object-in-Ok-clause-kept : goal.returns-in_ok-fill_object-in-Ok-clause-kept
returns-in_ok-fill_object-in-Ok-clause-kept g c = c.fill_object.ensures.kept

pub returns-in_err-fill_object-in-Ok-clause-lies : goal.returns-in_err-fill_object-in-Ok-clause-lies
returns-in_err-fill_object-in-Ok-clause-lies g c = c.requires.lies

pub fill_object-requires-clause-rows : goal.fill_object-requires-clause-rows
fill_object-requires-clause-rows g c =
    found_within (limit_of c.args.g) (objects_of c.args.table.now.pairs) c.args.n c.in-Ok.base
    (omega (arith, c.requires.plain.1.0)) c.in-Ok.ensures.base

pub add-requires-clause-rows : goal.add-requires-clause-rows
add-requires-clause-rows g c = rw c.requires.lies.limit (found_free (limit_of c.args.g)
    (objects_of c.args.table.now.pairs) c.args.n c.in-Ok.base c.in-Ok.ensures.base)

pub returns-in-Err-clause-reply : goal.returns-in-Err-clause-reply
returns-in-Err-clause-reply g c = λ operations.
    let instr = Init c.args.name.now c.args.count c.args.n in
    let pairs = c.args.table.now.pairs in
    replies_refused (refusal c.args.g operations pairs instr) c.in-Err.why
    (counts_for c.args.g operations pairs instr) (c.in-Err.ensures.refused operations)

pub returns-in-Err-clause-table : goal.returns-in-Err-clause-table
returns-in-Err-clause-table g c = λ operations.
    let instr = Init c.args.name.now c.args.count c.args.n in
    let pairs = c.args.table.now.pairs in
    same_after (refusal c.args.g operations pairs instr) c.in-Err.why
    (tabled c.args.g pairs instr) pairs (c.in-Err.ensures.refused operations)

pub returns-in-Err-clause-did : goal.returns-in-Err-clause-did
returns-in-Err-clause-did g c = λ operations.
    let instr = Init c.args.name.now c.args.count c.args.n in
    let pairs = c.args.table.now.pairs in
    did_nothing (refusal c.args.g operations pairs instr) c.in-Err.why
    (own_events c.args.g pairs instr) (g.D.Dram.view c.args.dram.now)
    (c.in-Err.ensures.refused operations)

pub returns-in_ok-fill_object-in-Ok-clause-lies : goal.returns-in_ok-fill_object-in-Ok-clause-lies
returns-in_ok-fill_object-in-Ok-clause-lies g c =
    let object : Object = record {
      base = c.in-Ok.base;
      width = c.args.n;
      count = c.args.count;
    } in
    lies_with c.args.g c.args.table.now c.add.new.self c.copied.result object c.add.ensures
    c.requires.lies c.in-Ok.ensures.few (rw c.copied.ensures c.in-Ok.ensures.new) (record {
      wide = omega (arith, c.requires.plain.1.0);
      narrow = omega (arith, c.requires.plain.1.1);
      some = omega (arith, c.requires.plain.0);
      fits = c.in-Ok.ensures.fits;
    }) (found_free (limit_of c.args.g) (objects_of c.args.table.now.pairs) c.args.n c.in-Ok.base
    c.in-Ok.ensures.base)
