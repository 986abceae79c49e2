use Rattle.std.specs.Prelude.{◌≡◌, true}
use Rattle.loop_laws.proofs.EveryRound as m
use Rattle.loop_laws.proofs.laws.marks_are_enough.Goals as goal

pub returns : goal.returns
returns c = λ rows. m.marks_are_enough (λ n q. rows n q ≡ true)
