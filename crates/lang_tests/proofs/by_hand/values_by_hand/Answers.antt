use Rattle.std.proofs.Common.{refl}
use Rattle.op_text.specs.Values.{bits}
use Rattle.lang_tests.proofs.by_hand.values_by_hand.Goals as goal

pub returns : goal.returns
unfolding bits
returns c = (refl, refl, refl)
