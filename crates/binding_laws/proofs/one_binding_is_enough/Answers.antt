use Rattle.binding_laws.proofs.Rebound.{run_alike}
use Rattle.binding_laws.proofs.Settled.{canonical-fits}
use Rattle.binding_laws.proofs.Enough.{enough}
use Rattle.binding_laws.proofs.Elsewhere.{elsewhere}
use Rattle.binding_laws.proofs.one_binding_is_enough.Goals as goal

pub returns-clause-alike : goal.returns-clause-alike
returns-clause-alike c = λ shape n p q b d f g issues s t a good.
    run_alike shape n p q b d f g issues s t a good

pub returns-clause-fits : goal.returns-clause-fits
returns-clause-fits c = canonical-fits

pub returns-clause-enough : goal.returns-clause-enough
returns-clause-enough c = enough

pub returns-clause-elsewhere : goal.returns-clause-elsewhere
returns-clause-elsewhere c = elsewhere
