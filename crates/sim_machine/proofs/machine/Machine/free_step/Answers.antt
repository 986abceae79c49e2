use Rattle.sim_machine.specs.Shown.{state_of}
use Rattle.sim_machine.proofs.Common.{refl, Kept-same}
use Rattle.sim_machine.specs.Machine.{geometry_of, operations_by, table_in}
use Rattle.sim_machine.proofs.Stepping.{done_alone, nothing_done, unsent_alone}
use Rattle.sim_machine.proofs.machine.Machine.free_step.Goals as goal

pub returns-in-Ok-clause-went : goal.returns-in-Ok-clause-went
returns-in-Ok-clause-went g c = rw (← c.self.view_is) (
    let m = (state_of c.self.inside) in
    let operations = operations_by m in
    record {
      kept = Kept-same (g.D.Dram.view c.args.dram.now);
      sink_faults = c.put_reply.ensures.faults;
      comes = done_alone _ _ _ _ _ _ _ _ refl refl refl c.free_reply-reply.result
          (c.free_reply-reply.ensures (geometry_of m) operations)
          (c.free.ensures.table (geometry_of m) operations) refl
          (nothing_done (geometry_of m) operations (table_in m) c.args.name.now _)
          c.in-Ok.ensures.sent c.in-Ok.ensures.unfailed;
    })

pub returns-in-Err-clause-went : goal.returns-in-Err-clause-went
returns-in-Err-clause-went g c = rw (← c.self.view_is) (
    let m = (state_of c.self.inside) in
    let operations = operations_by m in
    record {
      kept = Kept-same (g.D.Dram.view c.args.dram.now);
      sink_faults = c.put_reply.ensures.faults;
      comes = unsent_alone _ _ _ _ _ _ _ _ refl refl refl c.free_reply-reply.result
          (c.free_reply-reply.ensures (geometry_of m) operations) refl refl
          (nothing_done (geometry_of m) operations (table_in m) c.args.name.now _)
          c.in-Err.ensures.rose c.in-Err.ensures.part;
    })
