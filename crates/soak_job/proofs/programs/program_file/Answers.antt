use Rattle.soak_job.proofs.Common.{List, map, subst, Operation, ImplementsAll, text_op, AreExact}
use Rattle.uprog_code.specs.Shape.{microprograms_of}
use Rattle.soak_job.proofs.Making.{if_ok, made}
use Rattle.soak_job.proofs.programs.program_file.Goals as goal

pub returns : goal.returns
returns c =
    let ms = microprograms_of c.in-Ok.compiled.program in
    let implements = subst (λ (ops : List Operation). ImplementsAll ms (map text_op ops))
    c.in_ok-ops.ensures c.in-Ok.ensures.implements in
    let exact = subst (AreExact ms) c.in_ok-ops.ensures c.in-Ok.ensures.exact in
    if_ok c.encode.result c.encode.ensures
    (λ file is. made c.args.op ms file.items implements exact c.in-Ok.ensures.program is)
