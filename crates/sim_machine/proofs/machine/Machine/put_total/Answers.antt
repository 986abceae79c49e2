use Rattle.sim_machine.proofs.machine.Machine.put_total.Goals as goal

pub returns-clause-faults : goal.returns-clause-faults
returns-clause-faults g c = c.put.ensures.counts

pub returns-clause-unfailed : goal.returns-clause-unfailed
returns-clause-unfailed g c = c.put.ensures.unfailed

pub returns-clause-rose : goal.returns-clause-rose
returns-clause-rose g c = c.put.ensures.failed
