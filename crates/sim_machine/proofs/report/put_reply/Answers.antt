use Rattle.sim_machine.proofs.report.put_reply.Goals as goal

pub returns-clause-sent : goal.returns-clause-sent
returns-clause-sent g c = rw (← c.from.ensures) c.put_line.ensures.sent

pub returns-clause-part : goal.returns-clause-part
returns-clause-part g c = rw (← c.from.ensures) c.put_line.ensures.part
