use Rattle.op_text.specs.Language.{equation}
use Rattle.op_text.specs.Spelling.{HasEquation}
use Rattle.op_text.proofs.Loops.{each_all, each_mapped}
use Rattle.op_text.proofs.names.see_assigns.Goals as goal

pub returns : goal.returns
returns c =
    each_mapped HasEquation equation c.args.assigns.now
    (each_all (λ x. HasEquation (equation x)) c.args.assigns.now c.loop-assign.assign-index
    c.loop-assign-test.false c.loop-assign.invariant)
