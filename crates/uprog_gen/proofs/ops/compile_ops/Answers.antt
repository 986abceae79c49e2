use Rattle.uprog_gen.proofs.Common.{map, operation}
use Rattle.std.proofs.lemmas.Result.{IfOk-weaker}
use Rattle.uprog_code.specs.Shape.{microprograms_of}
use Rattle.uprog_gen.proofs.Meaning.Entries.{compiled_implement, compiled_program}
use Rattle.uprog_gen.proofs.Costs.Blocks.{compiled_exact}
use Rattle.uprog_gen.proofs.ops.compile_ops.Goals as goal

pub returns-clause-implements : goal.returns-clause-implements
returns-clause-implements c = IfOk-weaker c.compile_each.result _ _ (λ x h.
    compiled_implement (microprograms_of x.program) (map operation c.args.ops.now.ops.items) h)
    (rw c.deref.ensures.value at c.compile_each.ensures.compiled)

pub returns-clause-program : goal.returns-clause-program
returns-clause-program c = IfOk-weaker c.compile_each.result _ _ (λ x h.
    compiled_program (microprograms_of x.program) (map operation c.args.ops.now.ops.items) h
    c.ops_meet.ensures.meets) (rw c.deref.ensures.value at c.compile_each.ensures.compiled)

pub returns-clause-exact : goal.returns-clause-exact
returns-clause-exact c = IfOk-weaker c.compile_each.result _ _ (λ x h.
    compiled_exact (microprograms_of x.program) (map operation c.args.ops.now.ops.items) h)
    (rw c.deref.ensures.value at c.compile_each.ensures.compiled)
