use Rattle.sim_machine.proofs.Common.{arith, refl, ap, Err, ◌∙◌}
use Rattle.sim_machine.specs.Shown.{state_of}
use Rattle.sim_machine.specs.Machine.{operations_by}
use Rattle.sim_machine.proofs.Printing.{print_done, print_failed, print_refused, print_unsent}
use Rattle.sim_machine.proofs.machine.Machine.print_step.Goals as goal

pub returns-in-Err-clause-went : goal.returns-in-Err-clause-went
returns-in-Err-clause-went g c = rw (← c.self.view_is) (
    let operations = operations_by (state_of c.self.inside) in
    record {
      kept = c.print.ensures.kept;
      sink_faults = c.print.ensures.sink_faults;
      comes = print_failed _ _ _ _ _ _ _ _ refl c.in-Err.fault (c.in-Err.ensures.allowed operations)
          (c.in-Err.ensures.part operations) (λ e. c.in-Err.ensures.chip_fault (ap Err e))
          (λ e. c.in-Err.ensures.stopped (ap Err e))
          (λ e. c.in-Err.ensures.write_fault (ap Err e))
          (λ e. c.in-Err.ensures.read (ap Err e));
    })

pub returns-clause-went : goal.returns-clause-went
returns-clause-went g c = rw (← c.self.view_is) (
    let operations = operations_by (state_of c.self.inside) in
    record {
      kept = c.print.ensures.kept;
      sink_faults = c.print.ensures.sink_faults;
      comes = print_done _ _ _ _ _ _ _ _ refl c.in-Ok.reply c.in-Done.field-0
          (c.in-Ok.ensures.reply operations) c.in-Done.is (c.in-Ok.ensures.did operations)
          (c.in-Ok.ensures.sent operations) c.in-Ok.ensures.unfailed;
    })

pub returns-in-Ok-put_reply-clause-went : goal.returns-in-Ok-put_reply-clause-went
returns-in-Ok-put_reply-clause-went g c = rw (← c.self.view_is) (
    let operations = operations_by (state_of c.self.inside) in
    record {
      kept = c.print.ensures.kept;
      sink_faults = omega (arith, c.print.ensures.sink_faults, c.put_reply.ensures.faults);
      comes = print_refused _ _ _ _ _ _ _ _ refl c.in-Ok.reply c.in-Refused.field-0
          (g.S.Sink.view c.print.new.out) (c.in-Ok.ensures.reply operations) c.in-Refused.is
          (c.in-Ok.ensures.did operations)
          (c.in-Ok.ensures.sent operations) c.in-Ok-put_reply.ensures.sent
          (c.in-Ok-put_reply.ensures.unfailed ∙ c.in-Ok.ensures.unfailed);
    })

pub returns-in-Err-put_reply-clause-went : goal.returns-in-Err-put_reply-clause-went
returns-in-Err-put_reply-clause-went g c = rw (← c.self.view_is) (
    let operations = operations_by (state_of c.self.inside) in
    record {
      kept = c.print.ensures.kept;
      sink_faults = omega (arith, c.print.ensures.sink_faults, c.put_reply.ensures.faults);
      comes = print_unsent _ _ _ _ _ _ _ _ refl c.in-Ok.reply c.in-Refused.field-0
          (g.S.Sink.view c.print.new.out) (c.in-Ok.ensures.reply operations) c.in-Refused.is
          (c.in-Ok.ensures.did operations)
          c.in-Ok.ensures.sink_faults (c.in-Ok.ensures.sent operations)
          c.in-Err-put_reply.ensures.rose c.in-Err-put_reply.ensures.part;
    })
