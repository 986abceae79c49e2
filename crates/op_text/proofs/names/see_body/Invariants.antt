use Rattle.std.proofs.Common.{take}
use Rattle.op_text.specs.Language.{statement}
use Rattle.op_text.specs.Spelling.{Each, HasStatement}
use Rattle.op_text.proofs.names.see_body.Given as goal

abbrev pub invariant-loop-stmt : goal.invariant-loop-stmt
invariant-loop-stmt l = Each (λ x. HasStatement (statement x)) (take l.stmt-index l.body)
