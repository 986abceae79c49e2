use Rattle.op_text.specs.Language.{statement}
use Rattle.op_text.specs.Spelling.{HasStatement}
use Rattle.op_text.proofs.Loops.{each_all, each_mapped}
use Rattle.op_text.proofs.names.see_body.Goals as goal

pub returns : goal.returns
returns c =
    each_mapped HasStatement statement c.args.body.now
    (each_all (λ x. HasStatement (statement x)) c.args.body.now c.loop-stmt.stmt-index
    c.loop-stmt-test.false c.loop-stmt.invariant)
