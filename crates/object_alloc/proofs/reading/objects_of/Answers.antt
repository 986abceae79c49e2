use Rattle.object_alloc.proofs.Common.{◌≡◌, ◌∷◌, ◌++◌, [], length, arith, ap, ◌∙◌}
use Rattle.std.proofs.Common.{length-append}
use Rattle.std.proofs.lemmas.Result.{err_from_is_err_and}
use Rattle.object_alloc.specs.Listed.{Named, Listing}
use Rattle.object_alloc.proofs.Objects.{object_fits, objects_more, objects_fault, objects_end}
use Rattle.object_alloc.proofs.reading.objects_of.Goals as goal

pub returns-in_err-name-clause-gives : goal.returns-in_err-name-clause-gives
returns-in_err-name-clause-gives c =
    let p = err_from_is_err_and c.from_residual-in_err-name.result
    c.from_residual-in_err-name.ensures.1 in
    rw (p.1, p.2) (objects_fault c.args.count c.loop-k._k c.args.g c.loop-k.table.pairs
    c.loop-k.place c.args.bytes.now c.in_err-name.field-0.0 _ c.loop-k-test.true
    c.in_err-name.ensures.gives c.loop-k.invariant.all)

pub add-requires-clause-new : goal.add-requires-clause-new
add-requires-clause-new c =
    (object_fits c.args.g c.loop-k.table.pairs c.loop-k.place c.args.bytes.now _ (λ i.
    omega (arith, c.type_inv.bytes i)) c.in_ok-name.ensures.gives).new

pub add-requires-clause-some : goal.add-requires-clause-some
add-requires-clause-some c =
    (object_fits c.args.g c.loop-k.table.pairs c.loop-k.place c.args.bytes.now _ (λ i.
    omega (arith, c.type_inv.bytes i)) c.in_ok-name.ensures.gives).object.wide

pub add-requires-clause-rows : goal.add-requires-clause-rows
add-requires-clause-rows c = rw c.loop-k.invariant.limit
    (object_fits c.args.g c.loop-k.table.pairs c.loop-k.place c.args.bytes.now _ (λ i.
    omega (arith, c.type_inv.bytes i)) c.in_ok-name.ensures.gives).free

pub loop-k-preserved : goal.loop-k-preserved
loop-k-preserved c =
    let named : Named = (c.in_ok-name.name, c.in_ok-name.o) in
    let limit = ap (λ (t : Listing). t.limit) c.add.ensures in
    let pairs : c.add.new.self.pairs ≡ c.loop-k.table.pairs ++ named ∷ [] =
    ap (λ (t : Listing). t.pairs) c.add.ensures in
    record {
      limit = limit ∙ c.loop-k.invariant.limit;
      len = ap length pairs ∙ length-append c.loop-k.table.pairs (named ∷ []) ∙ omega arith;
      place = omega arith;
      within = omega (arith, c.in_ok-name.ensures.within);
      all = rw pairs (objects_more c.args.count c.loop-k._k c.args.g c.loop-k.table.pairs
          c.loop-k.place c.args.bytes.now named _ c.loop-k-test.true c.in_ok-name.ensures.gives
          c.loop-k.invariant.all);
    }

pub returns-clause-gives : goal.returns-clause-gives
returns-clause-gives c = objects_end c.args.count c.loop-k._k c.args.g c.loop-k.table.pairs
    c.loop-k.place c.args.bytes.now _ c.loop-k-test.false c.loop-k.invariant.all
