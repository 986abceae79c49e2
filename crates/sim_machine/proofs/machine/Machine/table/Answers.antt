use Rattle.sim_machine.proofs.Keeping.{laid_of}
use Rattle.sim_machine.proofs.Listing.{table_read}
use Rattle.sim_machine.proofs.machine.Machine.table.Goals as goal

pub returns-clause-limit : goal.returns-clause-limit
returns-clause-limit c = rw (← c.self.view_is) c.self.invariant.set.limit

pub returns-clause-laid : goal.returns-clause-laid
returns-clause-laid c = laid_of c.self.inside _ c.self.invariant.set c.self.view_is

pub returns-clause-read : goal.returns-clause-read
returns-clause-read c = rw (← c.self.view_is)
    (table_read c.self.inside.geometry c.self.inside.table c.self.invariant.set c.len.ensures.names)
