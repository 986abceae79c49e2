use Rattle.sim_machine.proofs.Common.{◌≡◌, ◌++◌, None, subst, IfOk, OnOk, OnErr, IsErrOf, Known}
use Rattle.sim_machine.proofs.Common.{AppendsPart, DidRead, FailedBelow, Print, refusal}
use Rattle.sim_machine.proofs.Common.{DidReadAtMost, ChipFault, WriteFault}
use Rattle.sim_machine.specs.State.{State}
use Rattle.sim_machine.specs.Machine.{banks_by, geometry_of, line_shown, operations_by, reads_by}
use Rattle.sim_machine.specs.Machine.{reply_of, table_in}
use Rattle.sim_machine.specs.Shown.{state_of}
use Rattle.sim_machine.proofs.Printing.{read_at_most}
use Rattle.sim_machine.proofs.machine.Machine.print_as.Goals as goal

pub returns-clause-borrow : goal.returns-clause-borrow
returns-clause-borrow g c = c.print.ensures.borrow

pub returns-clause-kept : goal.returns-clause-kept
returns-clause-kept g c = c.print.ensures.kept

pub returns-clause-sink_faults : goal.returns-clause-sink_faults
returns-clause-sink_faults g c = c.print.ensures.sink_faults

pub returns-clause-unfailed : goal.returns-clause-unfailed
returns-clause-unfailed g c = c.print.ensures.unfailed

pub returns-clause-no_event : goal.returns-clause-no_event
returns-clause-no_event g c = c.print.ensures.no_event

pub returns-clause-rises : goal.returns-clause-rises
returns-clause-rises g c = c.print.ensures.rises

pub returns-clause-reply : goal.returns-clause-reply
returns-clause-reply g c =
    subst (λ (m : State). IfOk c.print.result (λ reply. reply ≡ reply_of m (Print
    c.args.place.now))) c.self.view_is
    (c.print.ensures.reply (operations_by (state_of c.self.inside)))

pub returns-clause-did : goal.returns-clause-did
returns-clause-did g c =
    subst (λ (m : State). OnOk c.print.result (DidRead (reads_by m (Print c.args.place.now))
    (g.D.Dram.view c.args.dram.now) (g.D.Dram.view c.print.new.dram))) c.self.view_is
    (c.print.ensures.did (operations_by (state_of c.self.inside)))

pub returns-clause-sent : goal.returns-clause-sent
returns-clause-sent g c =
    subst (λ (m : State). OnOk c.print.result (Known (λ before after. after ≡ before
    ++ line_shown m c.args.number (g.D.Dram.view c.args.dram.now).banks c.args.place.now
    c.args.shown.now) (g.S.Sink.view c.args.out.now).sent (g.S.Sink.view c.print.new.out).sent))
    c.self.view_is (c.print.ensures.sent (operations_by (state_of c.self.inside)))

pub returns-clause-allowed : goal.returns-clause-allowed
returns-clause-allowed g c =
    subst (λ (m : State). OnErr c.print.result (refusal (geometry_of m) (operations_by m)
    (table_in m) (Print c.args.place.now) ≡ None)) c.self.view_is
    (c.print.ensures.allowed (operations_by (state_of c.self.inside)))

pub returns-clause-chip_fault : goal.returns-clause-chip_fault
returns-clause-chip_fault g c =
    subst (λ (m : State). IsErrOf c.print.result ChipFault → FailedBelow (banks_by m (Print
    c.args.place.now)) (g.D.Dram.view c.args.dram.now) (g.D.Dram.view c.print.new.dram))
    c.self.view_is c.print.ensures.chip_fault

pub returns-clause-read : goal.returns-clause-read
returns-clause-read g c =
    subst (λ (m : State). IsErrOf c.print.result WriteFault → DidReadAtMost (reads_by m (Print
    c.args.place.now)) (g.D.Dram.view c.args.dram.now) (g.D.Dram.view c.print.new.dram))
    c.self.view_is (read_at_most (state_of c.self.inside) c.args.place.now c.print.result
    (g.D.Dram.view c.args.dram.now) (g.D.Dram.view c.print.new.dram)
    (c.print.ensures.allowed (operations_by (state_of c.self.inside))) c.print.ensures.read)

pub returns-clause-part : goal.returns-clause-part
returns-clause-part g c =
    subst (λ (m : State). OnErr c.print.result (Known (AppendsPart (line_shown m c.args.number
    (g.D.Dram.view c.args.dram.now).banks c.args.place.now c.args.shown.now))
    (g.S.Sink.view c.args.out.now).sent (g.S.Sink.view c.print.new.out).sent))
    c.self.view_is (c.print.ensures.part (operations_by (state_of c.self.inside)))
