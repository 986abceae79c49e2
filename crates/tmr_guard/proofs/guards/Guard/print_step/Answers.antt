use Rattle.tmr_guard.proofs.Common.{ap, arith, Err, table_in, turn_in, ◌∙◌}
use Rattle.tmr_guard.specs.Steps.{machine_in}
use Rattle.tmr_guard.proofs.Shown.{print_broke, print_refused, print_shown, print_unsent}
use Rattle.tmr_guard.proofs.guards.Guard.print_step.Goals as goal

pub returns-in-Err-clause-came : goal.returns-in-Err-clause-came
returns-in-Err-clause-came g c =
    print_broke (machine_in c.args.self.now) c.print_as.new.self c.args.number c.args.place.now
    c.copy_place-copy.result (g.D.Dram.view c.args.dram.now) (g.D.Dram.view c.print_as.new.dram)
    (g.S.Sink.view c.args.out.now) (g.S.Sink.view c.print_as.new.out) c.copy_place-copy.ensures
    c.in-Err.fault c.in-Err.ensures.allowed
    (λ e. (c.in-Err.ensures.chip_fault (ap Err e)).rose)
    (λ e. c.in-Err.ensures.left (ap Err e))
    (λ e. c.in-Err.ensures.write_fault (ap Err e)) (λ e. c.in-Err.ensures.read (ap Err e))
    c.in-Err.ensures.part

pub returns-clause-came : goal.returns-clause-came
returns-clause-came g c =
    print_shown (machine_in c.args.self.now) c.print_as.new.self c.args.number c.args.place.now
    c.copy_place-copy.result (g.D.Dram.view c.args.dram.now) (g.D.Dram.view c.print_as.new.dram)
    (g.S.Sink.view c.args.out.now) (g.S.Sink.view c.print_as.new.out) c.copy_place-copy.ensures
    c.in-Ok.reply c.in-Done.field-0 c.in-Ok.ensures.reply c.in-Done.is
    (ap table_in c.print_as.ensures.same) (ap turn_in c.print_as.ensures.same)
    c.in-Ok.ensures.did c.in-Ok.ensures.rises c.in-Ok.ensures.sent c.in-Ok.ensures.unfailed

pub returns-in-Ok-put_reply-clause-came : goal.returns-in-Ok-put_reply-clause-came
returns-in-Ok-put_reply-clause-came g c =
    print_refused (machine_in c.args.self.now) c.print_as.new.self c.args.number c.args.place.now
    c.copy_place-copy.result (g.D.Dram.view c.args.dram.now) (g.D.Dram.view c.print_as.new.dram)
    (g.S.Sink.view c.args.out.now) (g.S.Sink.view c.put_reply.new.out) c.copy_place-copy.ensures
    c.in-Ok.reply c.in-Refused.field-0 (g.S.Sink.view c.print_as.new.out) c.in-Ok.ensures.reply
    c.in-Refused.is (ap table_in c.print_as.ensures.same) (ap turn_in c.print_as.ensures.same)
    c.in-Ok.ensures.did c.in-Ok.ensures.rises c.in-Ok.ensures.sent c.in-Ok-put_reply.ensures.sent
    (c.in-Ok-put_reply.ensures.unfailed ∙ c.in-Ok.ensures.unfailed)

pub returns-in-Err-put_reply-clause-came : goal.returns-in-Err-put_reply-clause-came
returns-in-Err-put_reply-clause-came g c =
    print_unsent (machine_in c.args.self.now) c.print_as.new.self c.args.number c.args.place.now
    c.copy_place-copy.result (g.D.Dram.view c.args.dram.now) (g.D.Dram.view c.print_as.new.dram)
    (g.S.Sink.view c.args.out.now) (g.S.Sink.view c.put_reply.new.out) c.copy_place-copy.ensures
    c.in-Ok.reply c.in-Refused.field-0 (g.S.Sink.view c.print_as.new.out) c.in-Ok.ensures.reply
    c.in-Refused.is c.in-Ok.ensures.did c.in-Ok.ensures.sink_faults c.in-Ok.ensures.sent
    c.in-Err-put_reply.ensures.rose c.in-Err-put_reply.ensures.part
