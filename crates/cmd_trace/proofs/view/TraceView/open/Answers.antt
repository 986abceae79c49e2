use Rattle.cmd_trace.proofs.Common.{◌∙◌, ap, subst, arith, trace_in, files_are_exact}
use Rattle.cmd_trace.specs.Opened.{Answers}
use Rattle.cmd_trace.proofs.Checking.{is_spelled}
use Rattle.cmd_trace.proofs.view.TraceView.open.Goals as goal

pub returns-clause-spelled : goal.returns-clause-spelled
returns-clause-spelled c = is_spelled c.args.bytes.now c.whole.result (λ t. t)
    (λ i. omega (arith, c.type_inv.bytes i)) c.whole.ensures

pub returns-clause-only : goal.returns-clause-only
returns-clause-only c = λ t is e. subst (λ read. Answers (λ x. x) c.whole.result read)
    (ap trace_in e ∙ files_are_exact.read t is) c.whole.ensures
