use Rattle.loop_laws.proofs.Common.{◌≡◌, true}
use Rattle.loop_laws.proofs.Compile as m
use Rattle.loop_laws.proofs.laws.made_compile.Goals as goal

pub returns : goal.returns
returns c = λ rows. m.made_compile (λ n q. rows n q ≡ true)
