use Rattle.op_text.specs.Language.{operation}
use Rattle.op_text.specs.Spelling.{HasOperation}
use Rattle.op_text.proofs.Loops.{each_all, each_mapped}
use Rattle.op_text.proofs.names.see_ops.Goals as goal

pub returns : goal.returns
returns c =
    each_mapped HasOperation operation c.args.ops.now
    (each_all (λ x. HasOperation (operation x)) c.args.ops.now c.loop-op.op-index
    c.loop-op-test.false c.loop-op.invariant)
