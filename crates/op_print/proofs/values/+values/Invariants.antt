use Rattle.std.proofs.Common.{◌+◌, ◌*◌}
use Rattle.op_text.specs.Language.{term}
use Rattle.op_print.proofs.Sizes.{parts}
use Rattle.op_print.proofs.values.+values.Given as goal

abbrev pub decreases-put_pair : goal.decreases-put_pair
decreases-put_pair l = 2 * (parts (term l.a.now) + parts (term l.b.now)) + 1

abbrev pub decreases-put_value : goal.decreases-put_value
decreases-put_value l = 2 * parts (term l.value.now)
