use Rattle.sim_machine.proofs.Common.{arith, refl}
use Rattle.sim_machine.proofs.machine.Machine.open.Goals as goal

pub returns-clause-borrow : goal.returns-clause-borrow
returns-clause-borrow g c = c.begin.ensures.borrow

pub returns-clause-faults : goal.returns-clause-faults
returns-clause-faults g c = c.begin.ensures.faults

pub returns-clause-opened : goal.returns-clause-opened
returns-clause-opened g c = c.in_ok-begin.ensures.opened

pub returns-in_err-stage-clause-borrow : goal.returns-in_err-stage-clause-borrow
returns-in_err-stage-clause-borrow g c = refl

pub returns-in_err-stage-clause-faults : goal.returns-in_err-stage-clause-faults
returns-in_err-stage-clause-faults g c = omega arith

pub returns-in_err-file-clause-borrow : goal.returns-in_err-file-clause-borrow
returns-in_err-file-clause-borrow g c = refl

pub returns-in_err-file-clause-faults : goal.returns-in_err-file-clause-faults
returns-in_err-file-clause-faults g c = omega arith

pub returns-in_err-begin-clause-borrow : goal.returns-in_err-begin-clause-borrow
returns-in_err-begin-clause-borrow g c = c.begin.ensures.borrow

pub returns-in_err-begin-clause-faults : goal.returns-in_err-begin-clause-faults
returns-in_err-begin-clause-faults g c = c.begin.ensures.faults
