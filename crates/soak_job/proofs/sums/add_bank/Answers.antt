use Rattle.soak_job.proofs.Common.{◌+◌, ◌%◌, ◌^◌, ◌∙◌, ap, sym, [], sum, range_with_len, sum-map}
use Rattle.soak_job.proofs.Common.{number, stage_number}
use Rattle.transpose_unit.proofs.Stopping.{stopped_first}
use Rattle.soak_job.proofs.Running.{on_err_always}
use Rattle.soak_job.proofs.sums.add_bank.Goals as goal

pub returns-clause-sum : goal.returns-clause-sum
returns-clause-sum g c =
    let columns = (g.D.Dram.view c.args.chip.now).banks c.args.bank in
    let read = stage_number 2 c.args.n c.read_segment.new.stage in
    c.add_numbers.ensures ∙ ap (λ x. (c.args.sum + x) % 2 ^ 64)
    (sym (sum-map read (range_with_len 0 128)) ∙ ap sum c.in_ok-read_segment.ensures.numbers
    ∙ sum-map (number c.args.base c.args.n) columns)

pub returns-in_err-read_segment-clause-left : goal.returns-in_err-read_segment-clause-left
returns-in_err-read_segment-clause-left g c =
    on_err_always _ (stopped_first 2 [] c.args.bank (g.D.Dram.view c.args.chip.now).banks
    (g.D.Dram.view c.read_segment.new.dram).banks c.requires.bank c.in_err-read_segment.ensures.failed.others)
