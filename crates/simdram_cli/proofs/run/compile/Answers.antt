use Rattle.simdram_cli.proofs.Common.{operations, microprograms_of}
use Rattle.simdram_cli.proofs.Accepting.{taken}
use Rattle.simdram_cli.proofs.run.compile.Goals as goal

pub returns-clause-taken : goal.returns-clause-taken
returns-clause-taken c =
    taken (microprograms_of c.in-Ok.compiled.program) (operations c.args.ops.now)
    c.in-Ok.ensures.compiled c.compile_ops.ensures.rules c.in-Ok.ensures.program
    c.in-Ok.ensures.implements
