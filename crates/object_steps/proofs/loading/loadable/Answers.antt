use Rattle.object_steps.proofs.Common.{[], ◌∷◌, arith, length, map, nat_le, not, at_place, rows_of}
use Rattle.object_steps.proofs.Common.{when, ◌^◌}
use Rattle.std.proofs.Common.{eqb}
use Rattle.object_steps.proofs.Done.{load_refused, load_allowed}
use Rattle.object_steps.proofs.Refused.{all_small}
use Rattle.machine_model.specs.declared.Why.TheVariants as why
use Rattle.object_steps.proofs.loading.loadable.Goals as goal

pub returns-in-Err-clause-refused : goal.returns-in-Err-clause-refused
returns-in-Err-clause-refused c = λ operations.
    let o = rows_of c.args.table.now.pairs c.args.place.now in
    c.in-Err.ensures.refused (when (not (eqb (length c.args.values.now) o.count)) why.Count
    ∷ at_place why.Range 1 (map (λ v. nat_le (2 ^ o.width) v) c.args.values.now) ∷ [])

pub returns-in-Some-clause-refused : goal.returns-in-Some-clause-refused
returns-in-Some-clause-refused c = λ operations.
    load_refused c.args.g operations c.args.table.now.pairs c.args.place.now c.args.values.now
    c.in-Ok.o c.in-Some.at _ c.in-Ok.ensures.there c.in-Ok.ensures.inside c.in-Ok.ensures.object (omega arith)
    c.in-Some.ensures.value (omega arith)

pub returns-in-None-clause-small : goal.returns-in-None-clause-small
returns-in-None-clause-small c =
    all_small c.in-Ok.o.width c.args.values.now c.in-None.ensures.value

pub returns-in-None-clause-allowed : goal.returns-in-None-clause-allowed
returns-in-None-clause-allowed c = λ operations.
    load_allowed c.args.g operations c.args.table.now.pairs c.args.place.now c.args.values.now
    c.in-Ok.o c.in-Ok.ensures.there c.in-Ok.ensures.inside c.in-Ok.ensures.object (omega arith) c.in-None.ensures.value
