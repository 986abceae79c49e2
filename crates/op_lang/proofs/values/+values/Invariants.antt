use Rattle.std.proofs.Common.{◌+◌, ◌*◌, length}
use Rattle.op_lang.specs.Reading.{left}
use Rattle.op_lang.proofs.values.+values.Given as goal

abbrev pub decreases-value : goal.decreases-value
decreases-value l = 4 * length (left l.parser.now)

abbrev pub decreases-arguments : goal.decreases-arguments
decreases-arguments l = 4 * length (left l.parser.now) + 3

abbrev pub decreases-one_argument : goal.decreases-one_argument
decreases-one_argument l = 4 * length (left l.parser.now) + 1

abbrev pub decreases-pair : goal.decreases-pair
decreases-pair l = 4 * length (left l.parser.now) + 1

abbrev pub decreases-two_arguments : goal.decreases-two_arguments
decreases-two_arguments l = 4 * length (left l.parser.now) + 2

abbrev pub decreases-three_arguments : goal.decreases-three_arguments
decreases-three_arguments l = 4 * length (left l.parser.now) + 2
