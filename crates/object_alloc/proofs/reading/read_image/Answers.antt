use Rattle.object_alloc.proofs.Common.{ap, subst, ◌∙◌, arith}
use Rattle.object_alloc.specs.Exact.{found_in}
use Rattle.object_alloc.specs.Reading.{Answers, image_in}
use Rattle.object_alloc.proofs.Exact.{image_read}
use Rattle.object_alloc.proofs.ExactAnswers.{is_spelled}
use Rattle.object_alloc.proofs.reading.read_image.Goals as goal

pub returns-clause-spelled : goal.returns-clause-spelled
returns-clause-spelled c = is_spelled c.args.bytes.now c.whole.result (λ i.
    omega (arith, c.type_inv.bytes i)) c.whole.ensures.exact

pub returns-clause-only : goal.returns-clause-only
returns-clause-only c = λ g table rows is e. subst (λ read. Answers found_in c.whole.result read)
    (ap image_in e ∙ image_read g table rows is) c.whole.ensures.exact
