use Rattle.std.proofs.Common.{refl}
use Rattle.lang_tests.proofs.by_hand.all_by_hand.Goals as goal

pub returns : goal.returns
returns c = refl
