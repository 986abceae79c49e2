use Rattle.op_text.specs.Language.{operation, result_names}
use Rattle.op_lang.proofs.Counts.{counted_sum}
use Rattle.op_lang.specs.Counting.{is_counted}
use Rattle.op_lang.proofs.scratch.+count_names.Goals as goal

pub returns-in-len1-up : goal.returns-in-len1-up
returns-in-len1-up t c =
    counted_sum (is_counted c.args.kind (result_names (operation c.args.of.now))) c.args.params.now
    c.args.body.now
    c.last-item.result c.in-len1-up.len_at_least c.last-item.is
    c.count_names.result c.capped.result c.capped_sum.result c.count_in.result c.count_names.ensures
    c.count_in.ensures c.capped.ensures c.capped_sum.ensures
