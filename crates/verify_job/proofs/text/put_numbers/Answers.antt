use Rattle.std.specs.Prelude.{slice_index_or}
use Rattle.std.proofs.lemmas.List.{get_or_default}
use Rattle.verify_job.specs.Report.{number_text}
use Rattle.uprog_code.proofs.Written.{next_part}
use Rattle.verify_job.proofs.text.put_numbers.Goals as goal

pub loop-number-preserved : goal.loop-number-preserved
loop-number-preserved c =
    let numbers = c.args.numbers.now in
    let k = c.loop-number.number-index in
    let number = slice_index_or numbers k 0 in
    next_part number_text numbers k number c.loop-number.out.items c.put_number.new.out.items _
    c.loop-number-test.true (get_or_default numbers k 0 number c.loop-number-test.true)
    c.in_ok-put_number.ensures c.loop-number.invariant
