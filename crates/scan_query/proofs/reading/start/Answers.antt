use Rattle.scan_query.proofs.Common.{◌∙◌, ap, items_of}
use Rattle.scan_query.specs.Digits.{are_digits}
use Rattle.scan_query.proofs.Taking.{all_digits}
use Rattle.scan_query.proofs.reading.start.Goals as goal

pub invariant_of-result : goal.invariant_of-result
invariant_of-result c = record {
  digits = ap are_digits c.new.ensures ∙ all_digits c.args.text.now (items_of c.args.text.now)
      (c.items_are_right.ensures c.args.text.now);
}
