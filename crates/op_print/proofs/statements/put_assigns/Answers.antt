use Rattle.std.proofs.Common.{codes}
use Rattle.op_text.specs.Language.{equation}
use Rattle.op_print.specs.Canonical.{line, equation_text}
use Rattle.op_print.proofs.Loops.{mapped-more}
use Rattle.op_print.proofs.statements.put_assigns.Goals as goal

pub loop-assign-preserved : goal.loop-assign-preserved
loop-assign-preserved c = mapped-more (λ e. line (codes "    ") (equation_text e)) equation c.args.assigns.now c.loop-assign.assign-index
    c.assign-item.result _ _ _ c.loop-assign-test.true c.assign-item.is c.loop-assign.invariant
    c.in_ok-put_assign.ensures
