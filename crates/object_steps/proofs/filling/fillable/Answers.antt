use Rattle.object_steps.proofs.Common.{[], ◌∷◌, nat_le, rows_of, when, ◌^◌}
use Rattle.machine_model.specs.declared.Why.TheVariants as why
use Rattle.object_steps.proofs.filling.fillable.Goals as goal

pub returns-in-Err-clause-refused : goal.returns-in-Err-clause-refused
returns-in-Err-clause-refused c = λ operations. c.in-Err.ensures.refused
    (when (nat_le (2 ^ (rows_of c.args.table.now.pairs c.args.place.now).width) c.args.value)
    (why.Range 1) ∷ [])
