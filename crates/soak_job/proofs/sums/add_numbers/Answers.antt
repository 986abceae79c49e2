use Rattle.soak_job.proofs.Common.{◌≡◌, ◌%◌, ◌^◌, ap, arith, subst, stage_number}
use Rattle.soak_job.proofs.Counting.{sum_more, two_words}
use Rattle.soak_job.proofs.sums.add_numbers.Goals as goal

pub loop-column-preserved : goal.loop-column-preserved
loop-column-preserved c =
    let two = two_words c.args.n c.args.stage.now c.requires (omega arith) in
    let read = subst (λ w. c.read_column.result
    ≡ stage_number w c.args.n c.args.stage.now c.loop-column.column) two c.read_column.ensures in
    sum_more c.args.sum (stage_number 2 c.args.n c.args.stage.now) c.loop-column.column
    c.loop-column.all _ c.loop-column.invariant (ap (λ x. x % 2 ^ 64) read)
